-- A typed program satisfies all assumptions of lowering.
use Rattle.lower_wf.proofs.Measured.{program_is_measured}
use Rattle.lower_wf_units.specs.Objects.{TypedIsChecked}
use Rattle.lower_wf_units.proofs.Present.{designated_are_defined}
use Rattle.lower_wf_units.proofs.Sized.{objects_are_sized}

pub typed_is_checked : TypedIsChecked
typed_is_checked stack texts whole unit p l a n e t =
    let m = program_is_measured stack texts whole unit p l a n e in record {
      well_typed = t;
      main_takes_nothing = m.main_takes_nothing;
      main_gives_int = m.main_gives_int;
      each = λ k f g. record {
        weight = (m.each k f g).weight;
        nodes = (m.each k f g).nodes;
        sized = λ i o h. objects_are_sized stack texts whole unit p e k f g i o h;
        defined = designated_are_defined stack texts whole unit p e t k f g;
      };
      literals = m.literals;
      few = m.few;
      small = m.small;
    }
