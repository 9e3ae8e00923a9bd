use Rattle.std.proofs.Common.{rules}
use Rattle.rdlpp_scan.specs.LineTokens.{line_token}
use Rattle.rdlpp_scan.proofs.Joins.{read_by_value}
use Rattle.rdlpp_scan.proofs.line_tokens.line_token.Goals as goal

pub returns-in-true-Plain-clause-is_read : goal.returns-in-true-Plain-clause-is_read
unfolding line_token
returns-in-true-Plain-clause-is_read c = read_by_value _ _ _ _ c.requires (search rules)

pub returns-in_default-clause-is_read : goal.returns-in_default-clause-is_read
unfolding line_token
returns-in_default-clause-is_read c = read_by_value _ _ _ _ c.requires (search rules)
