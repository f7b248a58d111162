-- The truth of the tokens that are read.
use Rattle.std.proofs.Common.{◌≡◌, Bool, true, false, Option, None, List, [], refl, sym, ap, ◌∙◌, append-nil}
use Rattle.std.specs.Prelude.{if◌then◌else◌, Result, Err}
use Rattle.std.specs.List.{list_any}
use Rattle.srcset.specs.declared.code.Code.{Code}
use Rattle.srcset.specs.declared.code.Code.TheVariants as code
use Rattle.phases.specs.Token.{Token}
use Rattle.pp_cond.specs.declared.condition.ConditionReader.{ConditionReader}
use Rattle.pp_cond.specs.Condition.{is_defined_word, condition_of, condition_truth, holds}
use Rattle.pp_cond.specs.layer.HasRead.{HasRead, whole_with}
use Rattle.pp_cond.specs.inside.Operands.{Known}
use Rattle.pp_cond.specs.inside.Reading.{state_of, ended, run, start, truth_known}
use Rattle.pp_cond.proofs.Agree.{truth_of_run}

-- ---- all tokens

whole_of : (r : ConditionReader) (xs : List Token) → HasRead r xs → run xs start ≡ whole_with r.is_broken r.reader []
whole_of r xs h = ap (λ l. run l start) (sym (append-nil xs)) ∙ h.whole_is []

pub broken_whole : (r : ConditionReader) (xs : List Token) (o : Option Known) → r.is_broken ≡ true → o ≡ None → HasRead r xs → o ≡ run xs start
broken_whole r xs o b e h = e ∙ sym (whole_of r xs h ∙ ap (λ b. whole_with b r.reader []) b)

pub read_whole : (r : ConditionReader) (xs : List Token) (o : Option Known) → r.is_broken ≡ false → o ≡ ended (state_of r.reader).waiting (state_of r.reader).operand → HasRead r xs → o ≡ run xs start
read_whole r xs o b e h = e ∙ sym (whole_of r xs h ∙ ap (λ b. whole_with b r.reader []) b)

-- ---- the truth of a list

by_word : (b : Bool) (r : Result Bool Code) → b ≡ true → (if b then Err code.DefinedMadeByMacro else r) ≡ Err code.DefinedMadeByMacro
by_word true r e = refl
by_word false r e = cc

by_rest : (b : Bool) (r : Result Bool Code) → b ≡ false → (if b then Err code.DefinedMadeByMacro else r) ≡ r
by_rest true r e = cc
by_rest false r e = refl

pub holds_of_word : (xs : List Token) → list_any is_defined_word xs ≡ true → holds xs ≡ Err code.DefinedMadeByMacro
unfolding holds
holds_of_word xs e = by_word (list_any is_defined_word xs) (condition_truth (condition_of xs)) e

pub holds_of_run : (xs : List Token) (o : Option Known) (r : Result Bool Code) → list_any is_defined_word xs ≡ false → o ≡ run xs start → r ≡ truth_known o → holds xs ≡ r
unfolding holds
holds_of_run xs o r e h g = by_rest (list_any is_defined_word xs) (condition_truth (condition_of xs)) e ∙ sym (truth_of_run xs) ∙ sym (ap truth_known h) ∙ sym g
