use Rattle.std.proofs.Common.{sym, ◌∙◌, nat_le}
use Rattle.rdlpp_texts.specs.CallTokens.{role_meant}
use Rattle.rdlpp_usages.proofs.Takes.{closing, comment_step, keeps_step, kept_at, passes_room}
use Rattle.rdlpp_usages.proofs.action.inside_action.Goals as goal

pub returns-then-ends_call : goal.returns-then-ends_call
returns-then-ends_call c =
    closing c.args.role c.args.level (nat_le c.args.token.len c.args.room) (sym c.ends_call.ensures ∙ c.if-ends_call.true)

pub returns-in-LineComment : goal.returns-in-LineComment
unfolding role_meant
returns-in-LineComment c =
    rw (c.passes.ensures, c.in-LineComment.is) (comment_step c.args.level c.args.room c.args.token)

pub returns-then-room-token : goal.returns-then-room-token
returns-then-room-token c =
    let kept = kept_at c.args.role c.args.level (sym c.ends_call.ensures ∙ c.if-ends_call.false) c.in_default.not-LineComment in
    passes_room (role_meant c.args.role) c.args.level c.args.room c.args.token.len kept c.if-room-token.true

pub returns : goal.returns
returns c =
    let kept = kept_at c.args.role c.args.level (sym c.ends_call.ensures ∙ c.if-ends_call.false) c.in_default.not-LineComment in
    keeps_step (role_meant c.args.role) c.args.level c.args.room c.args.token c.level_after.result kept c.if-room-token.false c.requires.some c.level_after.ensures
