use Rattle.rdlpp_texts.proofs.QuickTokens.{first_token_is}
use Rattle.rdlpp_texts.proofs.tokens.other_token.Goals as goal

pub returns : goal.returns
returns c =
    first_token_is c.args.mode c.args.text.now c.first_token-token.result c.role_of.result c.requires
    c.first_token-token.ensures.value c.first_token-token.ensures.not_empty c.first_token-token.ensures.inside c.role_of.ensures
