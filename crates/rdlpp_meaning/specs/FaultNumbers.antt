-- The number of each kind of fault.
-- A definition that names no source is this project's own.
use Rattle.std.specs.Prelude.{ℕ}
use Rattle.rdlpp_meaning.specs.declared.fault.FaultKind.{FaultKind}
use Rattle.rdlpp_meaning.specs.declared.fault.FaultKind.TheVariants.{EmbeddedPerl, OpenString, OpenComment, LineTooLong, SourceTooLong, BareBackquote, UndefinedMacro, RecursiveMacro, DirectiveInText, ArgumentsMissing, ArgumentsOpen, ArgumentBytes, ArgumentCount, DepthPassed, NameExpected, ReservedName, NameTooLong, BadFormals, FormalTwice, TooManyFormals, DefinitionBytes, TooManyDefinitions, StrayBranch, BranchAfterElse, OpenConditional, TooManyConditionals, IncludeName, SourceNotFound, TooManyIncludes, BadLine, PathTooLong, ReadFailed, WriteFailed, SourceMemory, OutputBytes}

-- the number by which a kind of fault is told (source: this project's profile)
abbrev pub fault_number : FaultKind → ℕ
fault_number EmbeddedPerl = 1
fault_number OpenString = 2
fault_number OpenComment = 3
fault_number LineTooLong = 4
fault_number SourceTooLong = 5
fault_number BareBackquote = 6
fault_number UndefinedMacro = 7
fault_number RecursiveMacro = 8
fault_number DirectiveInText = 9
fault_number ArgumentsMissing = 10
fault_number ArgumentsOpen = 11
fault_number ArgumentBytes = 12
fault_number ArgumentCount = 13
fault_number DepthPassed = 14
fault_number NameExpected = 15
fault_number ReservedName = 16
fault_number NameTooLong = 17
fault_number BadFormals = 18
fault_number FormalTwice = 19
fault_number TooManyFormals = 20
fault_number DefinitionBytes = 21
fault_number TooManyDefinitions = 22
fault_number StrayBranch = 23
fault_number BranchAfterElse = 24
fault_number OpenConditional = 25
fault_number TooManyConditionals = 26
fault_number IncludeName = 27
fault_number SourceNotFound = 28
fault_number TooManyIncludes = 29
fault_number BadLine = 30
fault_number PathTooLong = 31
fault_number ReadFailed = 32
fault_number WriteFailed = 33
fault_number SourceMemory = 34
fault_number OutputBytes = 35
