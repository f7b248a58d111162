-- The effect of a definition on the table.
use Rattle.std.proofs.Common.{◌≡◌, ℕ, List, [], ◌∷◌, ◌++◌, true, drop, Option, Some, None, is_some, Result, Ok, Err, OnOk, ap, sym, subst, ◌∙◌, slice_get, if◌then◌else◌, refl}
use Rattle.srcset.specs.NameTable.{Texts, NumbersOnce}
use Rattle.srcset.specs.declared.code.Code.{Code}
use Rattle.srcset.specs.declared.code.Code.TheVariants as code
use Rattle.phases.specs.Token.{Token}
use Rattle.macros.specs.Macro.{Macro, Macros, is_identifier, macro_named}
use Rattle.macros.specs.Definition.{define, macro_of, with_read, with_macro, unless_fault}
use Rattle.macros.specs.Table.{AreSame, IsDefined, IsMacro, IsTable, NumberedMacro, Table, numbered}
use Rattle.macros.specs.inside.Faults.{fault}
use Rattle.macros.specs.inside.Puts.{PutBy, Puts}
use Rattle.macros.proofs.FaultLemmas.{fault_is}
use Rattle.macros.proofs.TableLemmas.{inserted}

pub where_ok : {A B X E : Type 0} (r : Result X E) → OnOk r A → (A → B) → OnOk r B
where_ok (Ok x) h f = f h
where_ok (Err e) h f = tt

module _ (texts : Texts) (once : NumbersOnce texts) (table : Table) (macros : Macros) (is : IsTable texts table macros)
    (line : List Token) (name : Token) (rest : List Token) (at : line ≡ name ∷ drop 1 line) (rest_is : rest ≡ drop 1 line) (named : is_identifier name ≡ true)
    (n : ℕ) (number : slice_get texts n ≡ Some name.spelling) (x : NumberedMacro) where
  line_is : define macros line ≡ with_read macros name.spelling (macro_of rest)
  line_is =
      ap (define macros) at
      ∙ ap (λ b. if b then with_read macros name.spelling (macro_of (drop 1 line)) else Err code.BadMacroDefinition) named
      ∙ ap (λ r. with_read macros name.spelling (macro_of r)) (sym rest_is)

  read_is : (m : Macro) → IsMacro texts x m → (o : Option Code) → fault texts table n x ≡ o → with_read macros name.spelling (Some m) ≡ unless_fault o (with_macro macros name.spelling m)
  read_is m h o e = ap (λ f. unless_fault f (with_macro macros name.spelling m)) (sym (fault_is texts once table macros is n name.spelling number x m h) ∙ e)

  pub refused_by : AreSame texts (Some x) (macro_of rest) → (c : Code) → fault texts table n x ≡ Some c → define macros line ≡ Err c
  refused_by same c e = line_is ∙ by (macro_of rest) same
    where
      by : (o : Option Macro) → AreSame texts (Some x) o → with_read macros name.spelling o ≡ Err c
      by None h = absurd h
      by (Some m) h = read_is m h (Some c) e

  pub defined_by : AreSame texts (Some x) (macro_of rest) → fault texts table n x ≡ None → (new : Table) → Puts table n x new → IsDefined texts new macros line
  defined_by same e new puts = by (macro_of rest) refl same
    where
      put_in : (m : Macro) → IsMacro texts x m → (a : Option NumberedMacro) → numbered table n ≡ a → (b : Option Macro) → macro_named macros name.spelling ≡ b
          → AreSame texts a b → PutBy a table n x new → IsTable texts new (if is_some b then macros else macros ++ (name.spelling, m) ∷ [])
      put_in m h None f None g k put = inserted texts once table new macros is n name.spelling number x m h f put.looks put.longer
      put_in m h None f (Some y) g k put = absurd k
      put_in m h (Some y) f None g k put = absurd k
      put_in m h (Some y) f (Some z) g k put = subst (λ t. IsTable texts t macros) (sym put) is

      by : (o : Option Macro) → macro_of rest ≡ o → AreSame texts (Some x) o → IsDefined texts new macros line
      by None f h = absurd h
      by (Some m) f h = record {
        after = with_macro macros name.spelling m;
        defined = line_is ∙ ap (with_read macros name.spelling) f ∙ read_is m h None e;
        table_is = put_in m h (numbered table n) refl (macro_named macros name.spelling) refl (is.known n name.spelling number) puts;
      }
