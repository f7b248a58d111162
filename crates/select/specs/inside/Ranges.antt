-- Offsets from the stack pointer are small.
use Rattle.std.specs.Prelude.{◌<◌, ℕ, ◌^◌}
use Rattle.select.specs.declared.places.Source.{Source}
use Rattle.select.specs.declared.places.Source.TheVariants as source
use Rattle.select.specs.declared.places.Home.{Home}
use Rattle.select.specs.declared.places.Home.TheVariants as home

abbrev pub most_offset : ℕ
most_offset = 2 ^ 26

abbrev pub SourceIsNear : Source → Type 0
SourceIsNear (source.Register r) = Unit {0}
SourceIsNear (source.Frame o) = o < most_offset
SourceIsNear (source.Constant v) = Unit {0}

abbrev pub HomeIsNear : Home → Type 0
HomeIsNear (home.Register r) = Unit {0}
HomeIsNear (home.Frame o) = o < most_offset
