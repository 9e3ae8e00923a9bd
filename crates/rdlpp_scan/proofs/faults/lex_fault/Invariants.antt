use Rattle.std.proofs.Common.{◌≡◌, ◌-◌, ◌≤◌, length, drop}
use Rattle.rdlpp_scan.specs.declared.token.Mode.TheVariants.{Plain}
use Rattle.rdlpp_scan.specs.Tokens.{tokens_from}
use Rattle.rdlpp_scan.specs.LexFaults.{lex_fault_from, fault_of_tokens}
use Rattle.rdlpp_scan.proofs.faults.lex_fault.Given as goal

abbrev pub invariant-loop-at : goal.invariant-loop-at
invariant-loop-at l =
    (l.at ≤ length l.bytes) × (lex_fault_from Plain l.bytes ≡ fault_of_tokens l.mode (tokens_from l.mode 0 (drop l.at l.bytes)))

abbrev pub decreases-loop-at : goal.decreases-loop-at
decreases-loop-at l = length l.bytes - l.at
