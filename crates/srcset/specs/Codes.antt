-- The faults by their codes: the number and the text of each.
use Rattle.std.specs.Prelude.{ℕ, List, [], ◌∷◌, codes, nat_eq, Option, Some, None, find}
use Rattle.srcset.specs.declared.code.Code.{Code}
use Rattle.srcset.specs.declared.code.Code.TheVariants as code

-- the number of each code, and the text of a fault line after the number
abbrev pub entry_of : Code → ℕ × List ℕ
-- files, and phases 1 to 3 of translation (ISO/IEC 9899:2011 5.1.1.2)
entry_of code.FileGivenTwice = (101, codes "file name given twice")
entry_of code.BadFileName = (102, codes "bad file name")
entry_of code.NoMainFile = (103, codes "main file not given")
entry_of code.NoFinalNewline = (111, codes "file does not end in a newline")
entry_of code.FinalSplice = (112, codes "file ends in a splice")
entry_of code.OpenComment = (113, codes "comment not closed")
-- macros and directives (ISO/IEC 9899:2011 6.10)
entry_of code.MacroRedefined = (201, codes "macro redefined differently")
entry_of code.BadMacroDefinition = (202, codes "bad macro definition")
entry_of code.HashWithoutParameter = (203, codes "# not before a parameter")
entry_of code.PasteAtAnEnd = (204, codes "## at an end of a replacement")
entry_of code.ReservedMacroName = (205, codes "reserved macro name")
entry_of code.PasteMakesNoToken = (206, codes "## makes no token")
entry_of code.HashMakesNoString = (207, codes "# makes no string literal")
entry_of code.VariableArgumentsOutside = (208, codes "__VA_ARGS__ outside its macro")
entry_of code.OpenMacroArguments = (211, codes "macro arguments not closed")
entry_of code.MacroArgumentCount = (212, codes "wrong number of macro arguments")
entry_of code.MacroNameEndsRun = (213, codes "function-like macro name ends its run")
entry_of code.NoVariableArgument = (214, codes "no variable argument")
entry_of code.NotConstantCondition = (221, codes "not a constant expression in #if")
entry_of code.ConditionOutOfRange = (222, codes "#if arithmetic out of range")
entry_of code.DefinedMadeByMacro = (223, codes "defined made by a macro")
entry_of code.UnbalancedConditional = (231, codes "unbalanced conditional")
entry_of code.IncludeNotFound = (232, codes "include file not found")
entry_of code.BadDirective = (233, codes "bad directive")
entry_of code.ErrorDirective = (234, codes "#error")
entry_of code.BadLineDirective = (235, codes "bad #line")
-- tokens (ISO/IEC 9899:2011 6.4)
entry_of code.NotAToken = (301, codes "not a token")
entry_of code.BadLiteral = (302, codes "bad escape or byte in a literal")
entry_of code.ConstantOutOfRange = (303, codes "constant out of range")
-- the grammar (ISO/IEC 9899:2011 annex A)
entry_of code.SyntaxError = (401, codes "syntax error")
-- constraints (ISO/IEC 9899:2011 6.5 to 6.9)
entry_of code.NotConstantExpression = (501, codes "not a constant expression")
entry_of code.ConstantExpressionOutOfRange = (502, codes "constant expression out of range")
entry_of code.ConstantDivisionByZero = (503, codes "constant division by zero")
entry_of code.BadTypeSpecifiers = (511, codes "bad type specifiers")
entry_of code.BadStorageClass = (512, codes "bad storage class")
entry_of code.DeclaresNothing = (513, codes "declaration declares nothing")
entry_of code.NameDeclaredTwice = (514, codes "name declared twice in a scope")
entry_of code.RedeclaredWithAnotherType = (515, codes "redeclared with another type")
entry_of code.LinkageConflict = (516, codes "linkage conflict")
entry_of code.DefinedTwice = (517, codes "defined twice")
entry_of code.BadArrayType = (518, codes "bad array type")
entry_of code.IncompleteObject = (519, codes "object of incomplete type")
entry_of code.TooManyInitialisers = (520, codes "too many initialisers")
entry_of code.BadInitialiserForm = (521, codes "bad initialiser form")
entry_of code.StaticAssertionFailed = (523, codes "static assertion failed")
entry_of code.EnumeratorOutOfRange = (524, codes "enumerator does not fit int")
entry_of code.BadEnumTag = (525, codes "bad enum tag")
entry_of code.VoidParameter = (526, codes "void parameter")
entry_of code.UnnamedParameter = (527, codes "parameter without a name")
entry_of code.UndeclaredName = (528, codes "undeclared name")
entry_of code.BadSubscript = (529, codes "bad subscript")
entry_of code.CalledNoFunction = (530, codes "called name is no function")
entry_of code.ArgumentCount = (531, codes "wrong number of arguments")
entry_of code.ArgumentType = (532, codes "argument of wrong type")
entry_of code.NotModifiable = (533, codes "not a modifiable lvalue")
entry_of code.VoidAssigned = (534, codes "void value assigned")
entry_of code.VoidOperand = (535, codes "void operand")
entry_of code.BadSizeofOperand = (536, codes "bad sizeof operand")
entry_of code.BadCast = (537, codes "bad cast")
entry_of code.UnmatchedArms = (538, codes "arms of ?: do not match")
entry_of code.VoidControl = (539, codes "controlling expression is void")
entry_of code.LabelTwice = (540, codes "case or default twice")
entry_of code.LabelOutsideSwitch = (541, codes "case or default outside switch")
entry_of code.JumpOutside = (542, codes "break or continue outside its statement")
entry_of code.ReturnMismatch = (543, codes "return does not match its function")
entry_of code.BadForDeclaration = (544, codes "bad declaration in for")
entry_of code.NoMain = (551, codes "no int main(void)")
entry_of code.UsedUndefined = (552, codes "used but not defined")
entry_of code.BuiltInDefined = (553, codes "built-in defined again")
-- the faults for parts of the language that the compiler leaves out
entry_of code.LeftOutFloating = (601, codes "left out: float, double, _Complex, _Imaginary")
entry_of code.LeftOutStructures = (602, codes "left out: struct, union, typedef")
entry_of code.LeftOutGoto = (603, codes "left out: goto")
entry_of code.LeftOutQualifiers = (604, codes "left out: volatile, restrict, _Atomic, _Thread_local, auto, register")
entry_of code.LeftOutSpecifiers = (605, codes "left out: inline, _Noreturn, _Alignas, _Alignof, _Generic")
entry_of code.LeftOutFloatingConstant = (606, codes "left out: floating constant")
entry_of code.LeftOutLiteral = (607, codes "left out: prefixed or multi-character literal")
entry_of code.LeftOutPragmaOperator = (608, codes "left out: _Pragma, __func__")
entry_of code.LeftOutLongLong = (609, codes "left out: long long constant")
entry_of code.LeftOutArrayValue = (620, codes "left out: array or function as a value")
entry_of code.LeftOutReversedSubscript = (621, codes "left out: reversed subscript")
entry_of code.LeftOutBraceElision = (622, codes "left out: brace elision")
entry_of code.LeftOutLabel = (623, codes "left out: label not directly in its switch")
-- limits of the compiler (ISO/IEC 9899:2011 5.2.4.1)
entry_of code.FileSizeLimit = (701, codes "limit: file size")
entry_of code.FileLimit = (702, codes "limit: files")
entry_of code.TokenLengthLimit = (703, codes "limit: token length")
entry_of code.MacroLimit = (704, codes "limit: macros")
entry_of code.MacroParameterLimit = (705, codes "limit: macro parameters")
entry_of code.ReplacementLimit = (706, codes "limit: macro replacements")
entry_of code.NestingLimit = (707, codes "limit: nesting of includes or conditionals")
entry_of code.TokenLimit = (708, codes "limit: tokens")
entry_of code.DepthLimit = (709, codes "limit: depth")
entry_of code.FunctionNodeLimit = (710, codes "limit: nodes of a function")
entry_of code.ProgramNodeLimit = (711, codes "limit: nodes of the program")
entry_of code.ObjectSizeLimit = (712, codes "limit: object size")
entry_of code.StaticSizeLimit = (713, codes "limit: static objects")
entry_of code.WeightLimit = (714, codes "limit: function weight")
entry_of code.FunctionLimit = (715, codes "limit: functions")
entry_of code.JumpLimit = (716, codes "limit: jump distance")
-- memory, input and output
entry_of code.OutOfMemory = (801, codes "out of memory")
entry_of code.CannotRead = (802, codes "cannot read")
entry_of code.CannotWrite = (803, codes "cannot write")
-- executable files (System V gABI, chapters 4 and 5)
entry_of code.ShortHeader = (901, codes "ELF header too short")
entry_of code.NotElf32 = (902, codes "not ELF32 little endian")
entry_of code.NotExecutable = (903, codes "not an executable")
entry_of code.NotRiscV = (904, codes "not RISC-V")
entry_of code.BadProgramHeader = (905, codes "bad program header")
entry_of code.SegmentsOverlap = (906, codes "segments overlap")
entry_of code.TooMuchMemory = (907, codes "too much memory")

abbrev pub number_of : Code → ℕ
number_of c = (entry_of c).0

abbrev pub text_of : Code → List ℕ
text_of c = (entry_of c).1

-- all codes, in the order of their numbers
unfoldable pub all_codes : List Code
all_codes =
    code.FileGivenTwice ∷ code.BadFileName ∷ code.NoMainFile ∷ code.NoFinalNewline ∷ code.FinalSplice ∷ code.OpenComment ∷ code.MacroRedefined ∷
    code.BadMacroDefinition ∷ code.HashWithoutParameter ∷ code.PasteAtAnEnd ∷ code.ReservedMacroName ∷ code.PasteMakesNoToken ∷ code.HashMakesNoString ∷
    code.VariableArgumentsOutside ∷ code.OpenMacroArguments ∷ code.MacroArgumentCount ∷ code.MacroNameEndsRun ∷ code.NoVariableArgument ∷
    code.NotConstantCondition ∷ code.ConditionOutOfRange ∷ code.DefinedMadeByMacro ∷ code.UnbalancedConditional ∷ code.IncludeNotFound ∷ code.BadDirective ∷
    code.ErrorDirective ∷ code.BadLineDirective ∷ code.NotAToken ∷ code.BadLiteral ∷ code.ConstantOutOfRange ∷ code.SyntaxError ∷ code.NotConstantExpression ∷
    code.ConstantExpressionOutOfRange ∷ code.ConstantDivisionByZero ∷ code.BadTypeSpecifiers ∷ code.BadStorageClass ∷ code.DeclaresNothing ∷
    code.NameDeclaredTwice ∷ code.RedeclaredWithAnotherType ∷ code.LinkageConflict ∷ code.DefinedTwice ∷ code.BadArrayType ∷ code.IncompleteObject ∷
    code.TooManyInitialisers ∷ code.BadInitialiserForm ∷ code.StaticAssertionFailed ∷ code.EnumeratorOutOfRange ∷ code.BadEnumTag ∷ code.VoidParameter ∷
    code.UnnamedParameter ∷ code.UndeclaredName ∷ code.BadSubscript ∷ code.CalledNoFunction ∷ code.ArgumentCount ∷ code.ArgumentType ∷ code.NotModifiable ∷
    code.VoidAssigned ∷ code.VoidOperand ∷ code.BadSizeofOperand ∷ code.BadCast ∷ code.UnmatchedArms ∷ code.VoidControl ∷ code.LabelTwice ∷
    code.LabelOutsideSwitch ∷ code.JumpOutside ∷ code.ReturnMismatch ∷ code.BadForDeclaration ∷ code.NoMain ∷ code.UsedUndefined ∷ code.BuiltInDefined ∷
    code.LeftOutFloating ∷ code.LeftOutStructures ∷ code.LeftOutGoto ∷ code.LeftOutQualifiers ∷ code.LeftOutSpecifiers ∷ code.LeftOutFloatingConstant ∷
    code.LeftOutLiteral ∷ code.LeftOutPragmaOperator ∷ code.LeftOutLongLong ∷ code.LeftOutArrayValue ∷ code.LeftOutReversedSubscript ∷
    code.LeftOutBraceElision ∷ code.LeftOutLabel ∷ code.FileSizeLimit ∷ code.FileLimit ∷ code.TokenLengthLimit ∷ code.MacroLimit ∷ code.MacroParameterLimit ∷
    code.ReplacementLimit ∷ code.NestingLimit ∷ code.TokenLimit ∷ code.DepthLimit ∷ code.FunctionNodeLimit ∷ code.ProgramNodeLimit ∷ code.ObjectSizeLimit ∷
    code.StaticSizeLimit ∷ code.WeightLimit ∷ code.FunctionLimit ∷ code.JumpLimit ∷ code.OutOfMemory ∷ code.CannotRead ∷ code.CannotWrite ∷ code.ShortHeader ∷
    code.NotElf32 ∷ code.NotExecutable ∷ code.NotRiscV ∷ code.BadProgramHeader ∷ code.SegmentsOverlap ∷ code.TooMuchMemory ∷ []

-- the code with this number
unfoldable pub code_with : ℕ → Option Code
code_with n = find (λ c. nat_eq n (number_of c)) all_codes

abbrev pub text_or_nothing : Option Code → List ℕ
text_or_nothing None = []
text_or_nothing (Some c) = text_of c

-- the text of the code with this number, empty where there is none
abbrev pub message_of : ℕ → List ℕ
message_of n = text_or_nothing (code_with n)
