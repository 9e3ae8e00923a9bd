use Rattle.std.proofs.Common.{ap, ◌∙◌, subst, arith}
use Rattle.rdlpp_read.specs.Buffer.{EndsHeld, held_of}
use Rattle.rdlpp_usages.specs.CallActions.{call_state_meant}
use Rattle.rdlpp_usages.proofs.CallLoop.{token_closed, token_perl, token_refused, token_used}
use Rattle.rdlpp_usages.proofs.Takes.{ended_fault, perl_fault}
use Rattle.rdlpp_usages.proofs.reading.take_token.Goals as goal

pub action_at-requires-clause-level : goal.action_at-requires-clause-level
action_at-requires-clause-level g c =
    omega (arith, c.room.ensures.value, c.room.ensures.fits, c.room.ensures.counted, c.requires.level)

pub returns-in-Consumes-clause-takes : goal.returns-in-Consumes-clause-takes
returns-in-Consumes-clause-takes g c =
    token_used (call_state_meant c.args.call_state) c.mode.result c.room.result c.args.store.now.most c.held-held.result.now c.kept_part.result.now c.args.store.now.bytes c.append.new.self.bytes
    c.args.files.now.include_stack c.use_bytes.new.files.include_stack c.in-Consumes.token c.requires.some (subst EndsHeld c.file.ensures.buffer c.file.ensures.ends)
    (c.mode.ensures ∙ ap (λ b. b.mode) c.file.ensures.buffer) (c.held-held.ensures.value ∙ ap held_of c.file.ensures.buffer) c.room.ensures.value
    c.in-Consumes.ensures c.kept_part.ensures (ap (λ s. s.bytes) c.append.ensures) (ap (λ f. f.include_stack) c.use_bytes.ensures)

pub returns-in-Closes-clause-takes : goal.returns-in-Closes-clause-takes
returns-in-Closes-clause-takes g c =
    token_closed (call_state_meant c.args.call_state) c.mode.result c.room.result c.args.store.now.most c.held-held.result.now c.args.store.now.bytes
    c.args.files.now.include_stack c.use_bytes-in-Closes.new.files.include_stack c.requires.some (subst EndsHeld c.file.ensures.buffer c.file.ensures.ends) c.requires.held
    (c.mode.ensures ∙ ap (λ b. b.mode) c.file.ensures.buffer) (c.held-held.ensures.value ∙ ap held_of c.file.ensures.buffer) c.room.ensures.value
    c.in-Closes.ensures (ap (λ f. f.include_stack) c.use_bytes-in-Closes.ensures)

pub returns-in-Refused-clause-takes : goal.returns-in-Refused-clause-takes
returns-in-Refused-clause-takes g c =
    token_refused (call_state_meant c.args.call_state) c.mode.result c.room.result c.args.store.now.most c.held-held.result.now c.args.store.now.bytes
    c.args.files.now.include_stack c.in-Refused.kind (subst EndsHeld c.file.ensures.buffer c.file.ensures.ends)
    (c.mode.ensures ∙ ap (λ b. b.mode) c.file.ensures.buffer) (c.held-held.ensures.value ∙ ap held_of c.file.ensures.buffer) c.room.ensures.value
    c.in-Refused.ensures

pub returns-in-Perl-clause-takes : goal.returns-in-Perl-clause-takes
returns-in-Perl-clause-takes g c =
    token_perl (call_state_meant c.args.call_state) c.mode.result c.room.result c.args.store.now.most c.line-line.result c.held-held.result.now c.args.store.now.bytes
    c.args.files.now.include_stack (subst EndsHeld c.file.ensures.buffer c.file.ensures.ends)
    (c.mode.ensures ∙ ap (λ b. b.mode) c.file.ensures.buffer) (c.held-held.ensures.value ∙ ap held_of c.file.ensures.buffer) c.room.ensures.value
    (c.line-line.ensures ∙ ap (λ b. b.line) c.file.ensures.buffer) c.in-Perl.ensures

pub returns-in-Refused-clause-fault : goal.returns-in-Refused-clause-fault
returns-in-Refused-clause-fault g c =
    ended_fault _ _ _ _ _ _ c.in-Refused.kind (token_refused (call_state_meant c.args.call_state) c.mode.result c.room.result c.args.store.now.most c.held-held.result.now c.args.store.now.bytes
    c.args.files.now.include_stack c.in-Refused.kind (subst EndsHeld c.file.ensures.buffer c.file.ensures.ends)
    (c.mode.ensures ∙ ap (λ b. b.mode) c.file.ensures.buffer) (c.held-held.ensures.value ∙ ap held_of c.file.ensures.buffer) c.room.ensures.value
    c.in-Refused.ensures)

pub returns-in-Perl-clause-fault : goal.returns-in-Perl-clause-fault
returns-in-Perl-clause-fault g c = perl_fault
