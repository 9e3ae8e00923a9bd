-- Exit statuses.
-- A definition that names no source is this project's own.
use Rattle.std.specs.Prelude.{ℕ, ◌&&◌, nat_le, Result, Ok, Err, if◌then◌else◌}
use Rattle.rdlpp_meaning.specs.FaultNumbers.{fault_number}
use Rattle.rdlpp.specs.declared.fault.PrepFault.{PrepFault}
use Rattle.rdlpp.specs.declared.fault.PrepFault.TheVariants.{BadLimits, NoMemory, Run}

-- the exit status of a fault by its number: 3 for F32 to F34, where a device failed or memory was refused, and else 1 (source: this project's profile)
abbrev pub fault_status : ℕ → ℕ
fault_status number = if nat_le 32 number && nat_le number 34 then 3 else 1

-- the exit status that tells how a run ended (source: this project's profile)
abbrev pub status_of : Result ℕ PrepFault → ℕ
status_of (Ok written) = 0
status_of (Err (BadLimits limit)) = 2
status_of (Err NoMemory) = 3
status_of (Err (Run run)) = fault_status (fault_number run.fault.kind)
