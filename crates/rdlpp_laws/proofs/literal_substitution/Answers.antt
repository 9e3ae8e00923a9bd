-- The laws that the function ensures.
use Rattle.rdlpp_meaning.proofs.BodyTokens.{body_covered}
use Rattle.rdlpp_laws.proofs.LiteralSubstitution.{literal_substitution}
use Rattle.rdlpp_laws.proofs.literal_substitution.Goals as goal

pub returns-clause-substituted : goal.returns-clause-substituted
returns-clause-substituted c = literal_substitution

pub returns-clause-covered : goal.returns-clause-covered
returns-clause-covered c = body_covered
