-- The fault that a refusal of this crate becomes.
use Rattle.std.proofs.Common.{◌≡◌, ℕ, List, Option, Some, None, Result, true, inr, sym, subst}
use Rattle.srcset.specs.NameTable.{Texts, file_name_of}
use Rattle.srcset.specs.Fault.{IsFaultOf, IsMemoryFault, IsFaultOrMemory}
use Rattle.srcset.specs.Refusal.{IsFaultOfRefusal}
use Rattle.srcset.specs.declared.code.Code.{Code}
use Rattle.srcset.specs.declared.code.Code.TheVariants.{ReservedMacroName}
use Rattle.srcset.specs.declared.fault.Fault.{Fault}
use Rattle.srcset.specs.declared.refusal.Pos.{Pos}
use Rattle.srcset.specs.declared.refusal.Refusal.{Refusal}
use Rattle.srcset.specs.declared.refusal.Refusal.TheVariants.{Memory, At, Told}
use Rattle.phases.specs.Token.{Token}
use Rattle.macros.specs.Macro.{Macros, is_reserved}
use Rattle.macros.specs.Operators.{code_of, IsRefusalOf}
use Rattle.macros.specs.Table.{define_code, IsDefineRefusal, IsUndefineRefusal}

pub memory_fault : (fault : Fault) (why : Option Code) (file : List ℕ) (line : ℕ) → IsMemoryFault fault → IsFaultOf fault why file line
memory_fault fault None file line p = p
memory_fault fault (Some c) file line p = inr p

pub operator_fault : (made : Result Token Code) (at : Pos) (r : Refusal) (fault : Fault) (texts : Texts)
    → IsRefusalOf made at r → IsFaultOfRefusal fault texts r → IsFaultOf fault (code_of made) (file_name_of texts at.file) at.line
operator_fault made at Memory fault texts p q = memory_fault fault (code_of made) _ _ q
operator_fault made at (At c pos) fault texts p q = rw (p.0, sym p.1) q
operator_fault made at (Told c pos text) fault texts p q = absurd p

pub define_fault : (macros : Macros) (tokens : List Token) (at : Pos) (r : Refusal) (fault : Fault) (texts : Texts)
    → IsDefineRefusal macros tokens at r → IsFaultOfRefusal fault texts r → IsFaultOf fault (define_code macros tokens) (file_name_of texts at.file) at.line
define_fault macros tokens at Memory fault texts p q = memory_fault fault (define_code macros tokens) _ _ q
define_fault macros tokens at (At c pos) fault texts p q = rw (p.0, sym p.1) q
define_fault macros tokens at (Told c pos text) fault texts p q = absurd p

pub undefine_fault : (name : Token) (at : Pos) (r : Refusal) (fault : Fault) (texts : Texts)
    → IsUndefineRefusal name at r → IsFaultOfRefusal fault texts r → (is_reserved name.spelling ≡ true) × IsFaultOrMemory fault ReservedMacroName (file_name_of texts at.file) at.line
undefine_fault name at r fault texts p q = (p.reserved, subst (IsFaultOfRefusal fault texts) p.refusal_is q)
