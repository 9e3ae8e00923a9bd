-- The exit statuses of words that ask for no run, and of files that aren't written.
-- A definition that names no source is this project's own.
use Rattle.std.specs.Prelude.{◌≡◌, ◌⊎◌, ℕ, Result, Ok, Err}
use Rattle.rdlpp_words.specs.declared.invocation.UsageFault.{UsageFault}
use Rattle.rdlpp_words.specs.declared.invocation.UsageFault.TheVariants.{Help, Bad, NoMemory}
use Rattle.rdlpp_cli.specs.declared.files.WriteFault.{WriteFault}
use Rattle.rdlpp_cli.specs.declared.files.WriteFault.TheVariants.{Failed, Source}

-- the status of a usage fault: 0 for help and the version, or 3 where they can't be written; 2 for words that aren't a command line; 3 for want of memory (source: this project's profile)
abbrev pub UsageStatus : UsageFault → ℕ → Type 0
UsageStatus (Help text) status = (status ≡ 0) ⊎ (status ≡ 3)
UsageStatus (Bad text) status = status ≡ 2
UsageStatus NoMemory status = status ≡ 3

-- the status of a file that isn't written: 2 where it is a source, and else 3 (source: this project's profile)
abbrev pub write_status : WriteFault → ℕ
write_status (Failed error) = 3
write_status Source = 2

-- the status of a report: 0 where it was written, and else that of its file (source: this project's profile)
abbrev pub report_status : {A : Type 0} → Result A WriteFault → ℕ
report_status (Ok done) = 0
report_status (Err fault) = write_status fault
