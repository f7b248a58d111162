-- A constraint that a part violates is violated in the whole.
use Rattle.std.proofs.Common.{inl, inr}
use Rattle.srcset.specs.declared.code.Code.{Code}
use Rattle.srcset.specs.declared.refusal.Pos.{Pos}
use Rattle.typing_spec.specs.Verdict.{Verdict, fine, broken, then_check, both, Stands}

pub then_stands : {A B : Type 0} (code : Code) (at : Pos) (v : Verdict A) (go : A → Verdict B) → Stands code at v → Stands code at (then_check v go)
then_stands code at (fine a) go h = absurd h
then_stands code at (broken vs) go h = h

pub both_left : {A B C : Type 0} (code : Code) (at : Pos) (va : Verdict A) (vb : Verdict B) (go : A → B → Verdict C) → Stands code at va → Stands code at (both va vb go)
both_left code at (fine a) vb go h = absurd h
both_left code at (broken vs) vb go h = inl h

pub both_right : {A B C : Type 0} (code : Code) (at : Pos) (va : Verdict A) (vb : Verdict B) (go : A → B → Verdict C) → Stands code at vb → Stands code at (both va vb go)
both_right code at va (fine b) go h = absurd h
both_right code at (fine a) (broken vs) go h = h
both_right code at (broken us) (broken vs) go h = inr h
