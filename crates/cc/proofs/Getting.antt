-- How single reads of a port join.
use Rattle.std.proofs.Common.{◌≡◌, ℕ, suc, ◌≤◌, List, [], ◌∷◌, ◌++◌, length, Option, Some, None, inl, inr, refl, sym, ap, ◌∙◌, append-nil}
use Rattle.std.proofs.KnownBytes.{Consumes-nil, Consumes-trans}
use Rattle.std.specs.Io.KnownBytes.{Keeps, Consumes, IsAtEnd}
use Rattle.srcset.specs.Files.{max_file_bytes}
use Rattle.srcset.specs.declared.fault.Fault.{Fault}
use Rattle.srcset.specs.declared.code.Code.TheVariants.{FileSizeLimit}
use Rattle.io_ports.specs.Port.{PortView, Gets, IsRefused}
use Rattle.io_ports.specs.declared.port.PortFault.{PortFault}
use Rattle.cc.specs.Sources.{GetsBytes, GivesAll, ReadsAll, FailsReading}
use Rattle.cc.specs.inside.Stops.{IsToldAs, port_stop}
use Rattle.cc.specs.declared.stopping.Stop.{Stop}
use Rattle.cc.specs.declared.stopping.Stop.TheVariants.{Memory, At}
use Rattle.cc.proofs.Transfers.{keeps_itself, keeps_twice}
use Rattle.cc.proofs.Outcomes.{port_fails}

consumes_kept : (a b c : Option (List ℕ)) (xs : List ℕ) → Consumes a b xs → Keeps b c → Consumes a c xs
consumes_kept None b c xs p q = tt
consumes_kept (Some x) None c xs p q = absurd p
consumes_kept (Some x) (Some y) None xs p q = absurd q
consumes_kept (Some x) (Some y) (Some z) xs p q = p ∙ ap (λ l. xs ++ l) (sym q)

gives_all : (a b c : Option (List ℕ)) (xs : List ℕ) → Consumes a b xs → IsAtEnd b → Keeps b c → GivesAll a c xs
gives_all None b c xs p e q = tt
gives_all (Some x) None c xs p e q = absurd p
gives_all (Some x) (Some y) None xs p e q = absurd q
gives_all (Some x) (Some y) (Some z) xs p e q = (p ∙ ap (λ l. xs ++ l) e ∙ append-nil xs, q ∙ e)

pub got_none : (a : PortView) → GetsBytes a a []
got_none a = record { input_moves = Consumes-nil a.input; output_stays = keeps_itself a.output; not_counted = refl }

pub got_more : (a b c : PortView) (xs all : List ℕ) (y : ℕ) → GetsBytes a b xs → Gets b c (Some y) → all ≡ xs ++ y ∷ [] → GetsBytes a c all
got_more a b c xs all y first more e = rw e (record {
  input_moves = Consumes-trans a.input b.input c.input xs (y ∷ []) first.input_moves more.input_moves;
  output_stays = keeps_twice a.output b.output c.output first.output_stays more.output_stays;
  not_counted = more.not_counted ∙ first.not_counted;
})

pub got_all : (a b c : PortView) (xs : List ℕ) → GetsBytes a b xs → Gets b c None → length xs ≤ max_file_bytes → ReadsAll a c xs
got_all a b c xs first end few = record {
  input_given = gives_all a.input b.input c.input xs first.input_moves end.input_moves.0 end.input_moves.1;
  output_stays = keeps_twice a.output b.output c.output first.output_stays end.output_stays;
  not_counted = end.not_counted ∙ first.not_counted;
  few = few;
}

module _ (name : List ℕ) (refuses : PortFault → Type 0) (a : PortView) (fault : Fault) where
  pub got_refused : (b c : PortView) (xs : List ℕ) (refusal : PortFault) (stop : Stop) → GetsBytes a b xs → IsRefused b c → length xs ≤ max_file_bytes
      → refuses refusal → stop ≡ port_stop refusal → IsToldAs name stop fault → FailsReading name refuses a c fault
  got_refused b c xs refusal stop first refused few by is told = inr (inl (record {
    bytes = xs;
    few = few;
    input_moves = consumes_kept a.input b.input c.input xs first.input_moves refused.input_stays;
    output_stays = keeps_twice a.output b.output c.output first.output_stays refused.output_stays;
    counted = rw (← first.not_counted) refused.counted;
    refusal = refusal;
    refused_with = by;
    told = port_fails name refusal stop fault is told;
  }))

  pub got_unheld : (b c : PortView) (xs : List ℕ) (y : ℕ) → GetsBytes a b xs → Gets b c (Some y) → IsToldAs name Memory fault
      → FailsReading name refuses a c fault
  got_unheld b c xs y first more told =
      inr (inr (record { bytes = xs ++ y ∷ []; gets = got_more a b c xs (xs ++ y ∷ []) y first more refl; told = told }))

  pub got_too_many : (b : PortView) (xs : List ℕ) → GetsBytes a b xs → length xs ≡ suc max_file_bytes → IsToldAs name (At FileSizeLimit 0) fault
      → FailsReading name refuses a b fault
  got_too_many b xs first many told = inl (record { bytes = xs; gets = first; many = many; told = told })
