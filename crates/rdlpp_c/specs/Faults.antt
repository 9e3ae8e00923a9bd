-- The text of each kind of fault, and the kind of each number.
-- A definition that names no source is this project's own.
use Rattle.std.specs.Prelude.{◌≡◌, ℕ, zero, suc, List, [], ◌∷◌, Option, Some, None, codes, slice_get}
use Rattle.rdlpp_meaning.specs.declared.fault.FaultKind.{FaultKind}
use Rattle.rdlpp_meaning.specs.declared.fault.FaultKind.TheVariants.{EmbeddedPerl, OpenString, OpenComment, LineTooLong, SourceTooLong, BareBackquote, UndefinedMacro, RecursiveMacro, DirectiveInText, ArgumentsMissing, ArgumentsOpen, ArgumentBytes, ArgumentCount, DepthPassed, NameExpected, ReservedName, NameTooLong, BadFormals, FormalTwice, TooManyFormals, DefinitionBytes, TooManyDefinitions, StrayBranch, BranchAfterElse, OpenConditional, TooManyConditionals, IncludeName, SourceNotFound, TooManyIncludes, BadLine, PathTooLong, ReadFailed, WriteFailed, SourceMemory, OutputBytes}
use Rattle.rdlpp_meaning.specs.FaultNumbers.{fault_number}
use Rattle.rdlpp_c.specs.Telling.{TellsText}

-- the text of a kind of fault (source: this project's profile)
abbrev pub kind_text : FaultKind → List ℕ
kind_text EmbeddedPerl = codes "embedded Perl"
kind_text OpenString = codes "string not closed"
kind_text OpenComment = codes "comment not closed"
kind_text LineTooLong = codes "line too long"
kind_text SourceTooLong = codes "source too long"
kind_text BareBackquote = codes "backquote without a name"
kind_text UndefinedMacro = codes "undefined macro"
kind_text RecursiveMacro = codes "recursive macro"
kind_text DirectiveInText = codes "directive in macro text"
kind_text ArgumentsMissing = codes "arguments missing"
kind_text ArgumentsOpen = codes "arguments not closed"
kind_text ArgumentBytes = codes "argument bytes passed"
kind_text ArgumentCount = codes "wrong number of arguments"
kind_text DepthPassed = codes "depth passed"
kind_text NameExpected = codes "name expected"
kind_text ReservedName = codes "reserved name"
kind_text NameTooLong = codes "name too long"
kind_text BadFormals = codes "bad formal list"
kind_text FormalTwice = codes "formal given twice"
kind_text TooManyFormals = codes "too many formals"
kind_text DefinitionBytes = codes "definition bytes passed"
kind_text TooManyDefinitions = codes "too many definitions"
kind_text StrayBranch = codes "branch or endif without conditional"
kind_text BranchAfterElse = codes "branch after else"
kind_text OpenConditional = codes "conditional not closed"
kind_text TooManyConditionals = codes "too many open conditionals"
kind_text IncludeName = codes "include name expected"
kind_text SourceNotFound = codes "source not found"
kind_text TooManyIncludes = codes "too many open includes"
kind_text BadLine = codes "bad line directive"
kind_text PathTooLong = codes "path too long"
kind_text ReadFailed = codes "read failed"
kind_text WriteFailed = codes "write failed"
kind_text SourceMemory = codes "no memory for a source"
kind_text OutputBytes = codes "output bytes passed"

-- the kinds of faults, by their numbers from 1
abbrev pub kinds : List FaultKind
kinds = EmbeddedPerl ∷ OpenString ∷ OpenComment ∷ LineTooLong ∷ SourceTooLong ∷ BareBackquote ∷ UndefinedMacro ∷ RecursiveMacro ∷ DirectiveInText ∷ ArgumentsMissing ∷ ArgumentsOpen ∷ ArgumentBytes ∷ ArgumentCount ∷ DepthPassed ∷ NameExpected ∷ ReservedName ∷ NameTooLong ∷ BadFormals ∷ FormalTwice ∷ TooManyFormals ∷ DefinitionBytes ∷ TooManyDefinitions ∷ StrayBranch ∷ BranchAfterElse ∷ OpenConditional ∷ TooManyConditionals ∷ IncludeName ∷ SourceNotFound ∷ TooManyIncludes ∷ BadLine ∷ PathTooLong ∷ ReadFailed ∷ WriteFailed ∷ SourceMemory ∷ OutputBytes ∷ []

-- the kind of fault with a number, where one has it
abbrev pub kind_numbered : ℕ → Option FaultKind
kind_numbered zero = None
kind_numbered (suc place) = slice_get kinds place

-- the text of a kind of fault; none where there is none
abbrev pub found_text : Option FaultKind → List ℕ
found_text None = []
found_text (Some kind) = kind_text kind

-- the text that is told of a number
abbrev pub fault_text : ℕ → List ℕ
fault_text number = found_text (kind_numbered number)

-- no kind of fault has this number
abbrev pub IsNoFault : ℕ → Type 0
IsNoFault number = (kind : FaultKind) → ¬ (fault_number kind ≡ number)

-- the text of a number is told: that of the kind of fault that has the number, and none for a number that no kind has
pub record TellsFault (number : ℕ) (old new : List ℕ) (len : ℕ) : Type 0 where
  pub tells : TellsText (fault_text number) old new len
  pub own : (kind : FaultKind) → fault_number kind ≡ number → fault_text number ≡ kind_text kind
  pub none : IsNoFault number → fault_text number ≡ []
