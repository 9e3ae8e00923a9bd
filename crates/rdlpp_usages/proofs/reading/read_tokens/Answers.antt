use Rattle.std.proofs.Common.{◌≡◌, ◌-◌, true, false, [], length, refl, sym, ap, ◌∙◌, subst}
use Rattle.rdlpp_scan.specs.Front.{SourceLong, LineLong}
use Rattle.rdlpp_meaning.specs.CallReading.{is_part_breach}
use Rattle.rdlpp_meaning.specs.State.{breach_kind}
use Rattle.rdlpp_read.specs.Calls.{SourcesRead}
use Rattle.rdlpp_read.specs.Files.{inner_buffer}
use Rattle.rdlpp_read.proofs.Growing.{calls-on}
use Rattle.rdlpp_read.proofs.BufferTokens.{moves-slid, moves-told}
use Rattle.rdlpp_usages.specs.CallReads.{is_failed_call}
use Rattle.rdlpp_usages.specs.CallActions.{call_state_meant}
use Rattle.rdlpp_usages.proofs.CallLoop.{answered_failed, answered_token, answered_unfilled, break_tells, end_read, end_tells, filled, less_left, reading_starts, taken}
use Rattle.rdlpp_usages.proofs.Takes.{line_fault, source_fault}
use Rattle.rdlpp_usages.proofs.reading.read_tokens.Goals as goal

pub tokens-init : goal.tokens-init
unfolding call_state_meant
tokens-init g c =
    reading_starts g.S.Sources c.args.sources.now c.args.files.now c.args.store.now.most c.clear.new.self (ap (λ s. s.bytes) c.clear.ensures) (ap (λ s. s.most) c.clear.ensures) c.requires.plain

pub tokens-smaller : goal.tokens-smaller
tokens-smaller g c =
    less_left g.S.Sources.unread (call_state_meant c.tokens.call_state) (call_state_meant c.in-Goes.to) (c.tokens.store.most - length c.tokens.store.bytes) 0 c.tokens.store.bytes c.take_token.new.store.bytes
    c.tokens.files.include_stack c.fill.new.self.include_stack c.take_token.new.files.include_stack c.in-Goes.ensures.takes c.in-Held.ensures.fills.unused

pub tokens-preserved : goal.tokens-preserved
tokens-preserved g c =
    taken g.S.Sources c.args.sources.now c.fill.new.sources c.args.files.now c.fill.new.self c.take_token.new.files c.args.store.now.most c.tokens.store c.take_token.new.store
    (call_state_meant c.tokens.call_state) (call_state_meant c.in-Goes.to)
    (filled g.S.Sources false c.args.sources.now c.tokens.sources c.fill.new.sources c.args.files.now c.tokens.files c.fill.new.self c.args.store.now.most c.tokens.store (call_state_meant c.tokens.call_state)
    c.tokens.invariant c.in-Held.ensures.only c.in-Held.ensures.fills.unused c.in-Held.ensures.fills.mode c.in-Held.ensures.fills.tokens
    (moves-told _ _ Unit _ _ [] _ _ (λ t. t) (λ _ e. cc) (moves-slid _ _ _ _ _ c.in-Held.ensures.fills.slides)) (c.in-Held.ensures.fills.text (λ e. cc)) c.in-Held.ensures.call)
    c.in-Goes.ensures.only c.in-Goes.ensures.room c.in-Goes.ensures.takes

pub returns-in-Ends-clause-reads : goal.returns-in-Ends-clause-reads
returns-in-Ends-clause-reads g c =
    answered_token g.S.Sources c.args.sources.now c.fill.new.sources c.args.files.now c.fill.new.self c.take_token.new.files.include_stack c.args.store.now.most c.tokens.store c.take_token.new.store
    (call_state_meant c.tokens.call_state) c.in-Ends.read
    (filled g.S.Sources false c.args.sources.now c.tokens.sources c.fill.new.sources c.args.files.now c.tokens.files c.fill.new.self c.args.store.now.most c.tokens.store (call_state_meant c.tokens.call_state)
    c.tokens.invariant c.in-Held.ensures.only c.in-Held.ensures.fills.unused c.in-Held.ensures.fills.mode c.in-Held.ensures.fills.tokens
    (moves-told _ _ Unit _ _ [] _ _ (λ t. t) (λ _ e. cc) (moves-slid _ _ _ _ _ c.in-Held.ensures.fills.slides)) (c.in-Held.ensures.fills.text (λ e. cc)) c.in-Held.ensures.call)
    c.in-Ends.ensures.takes

pub returns-in-End-clause-call : goal.returns-in-End-clause-call
returns-in-End-clause-call g c =
    let none : is_failed_call c.end_of_text.result ≡ false =
    end_read (call_state_meant c.tokens.call_state) 0 (inner_buffer c.fill.new.self.include_stack) c.end_of_text.result (c.end_of_text.ensures.text 0) in
    calls-on g.S.Sources (is_failed_call c.end_of_text.result) c.args.sources.now c.tokens.sources c.fill.new.sources c.tokens.invariant.call
    (subst (λ b. SourcesRead g.S.Sources b c.tokens.sources c.fill.new.sources) (sym none) c.in-End.ensures.call)

pub returns-in-End-clause-reads : goal.returns-in-End-clause-reads
returns-in-End-clause-reads g c =
    let at = call_state_meant c.tokens.call_state in
    let room = c.args.store.now.most - length c.tokens.store.bytes in
    let fills = c.in-End.ensures.fills in
    answered_unfilled g.S.Sources c.args.sources.now c.tokens.sources c.args.files.now c.tokens.files c.fill.new.self c.args.store.now.most c.tokens.store at c.end_of_text.result
    c.tokens.invariant c.in-End.ensures.only fills.unused (moves-told _ _ _ _ _ [] _ _ (λ t. t) (λ _ e. cc) (moves-slid _ _ _ _ _ fills.slides)) (λ exact. fills.text (λ e. cc))
    (end_tells (g.S.Sources.has_known_texts c.args.sources.now) g.S.Sources.unread at room (inner_buffer c.tokens.files.include_stack) (inner_buffer c.fill.new.self.include_stack) c.end_of_text.result
    (c.end_of_text.ensures.text room) fills.mode fills.open_token_line (λ t. fills.tokens (c.tokens.invariant.call.has_known_texts t)))

pub returns-in-SourceLong-clause-reads : goal.returns-in-SourceLong-clause-reads
unfolding breach_kind is_part_breach
returns-in-SourceLong-clause-reads g c =
    let at = call_state_meant c.tokens.call_state in
    let room = c.args.store.now.most - length c.tokens.store.bytes in
    let fills = c.in-SourceLong.ensures.fills in
    answered_unfilled g.S.Sources c.args.sources.now c.tokens.sources c.args.files.now c.tokens.files c.fill.new.self c.args.store.now.most c.tokens.store at _
    c.tokens.invariant c.in-SourceLong.ensures.only fills.unused (moves-told _ _ _ _ _ [] _ _ (λ t. t) (λ _ e. cc) (moves-slid _ _ _ _ _ fills.slides)) (λ exact. fills.text (λ e. cc))
    (break_tells (g.S.Sources.has_known_texts c.args.sources.now) g.S.Sources.unread at room (inner_buffer c.tokens.files.include_stack) (inner_buffer c.fill.new.self.include_stack) SourceLong c.inner_line.result refl
    (c.inner_line.ensures.line ∙ fills.line) (λ t. fills.tokens (c.tokens.invariant.call.has_known_texts t)))

pub returns-in-LineLong-clause-reads : goal.returns-in-LineLong-clause-reads
unfolding breach_kind is_part_breach
returns-in-LineLong-clause-reads g c =
    let at = call_state_meant c.tokens.call_state in
    let room = c.args.store.now.most - length c.tokens.store.bytes in
    let fills = c.in-LineLong.ensures.fills in
    answered_unfilled g.S.Sources c.args.sources.now c.tokens.sources c.args.files.now c.tokens.files c.fill.new.self c.args.store.now.most c.tokens.store at _
    c.tokens.invariant c.in-LineLong.ensures.only fills.unused (moves-told _ _ _ _ _ [] _ _ (λ t. t) (λ exact e. exact _ refl) (moves-slid _ _ _ _ _ fills.slides)) (λ exact t. absurd (exact _ refl))
    (break_tells (g.S.Sources.has_known_texts c.args.sources.now) g.S.Sources.unread at room (inner_buffer c.tokens.files.include_stack) (inner_buffer c.fill.new.self.include_stack) LineLong c.inner_line-in-LineLong.result refl
    (c.inner_line-in-LineLong.ensures.line ∙ fills.line) (λ t. fills.tokens (c.tokens.invariant.call.has_known_texts t)))

pub returns-in-Failed-clause-reads : goal.returns-in-Failed-clause-reads
returns-in-Failed-clause-reads g c =
    answered_failed g.S.Sources c.args.sources.now c.fill.new.sources c.args.files.now c.fill.new.self c.args.store.now.most c.tokens.store (call_state_meant c.tokens.call_state)
    (filled g.S.Sources true c.args.sources.now c.tokens.sources c.fill.new.sources c.args.files.now c.tokens.files c.fill.new.self c.args.store.now.most c.tokens.store (call_state_meant c.tokens.call_state)
    c.tokens.invariant c.in-Failed.ensures.only c.in-Failed.ensures.fills.unused c.in-Failed.ensures.fills.mode c.in-Failed.ensures.fills.tokens
    (moves-told _ _ Unit _ _ [] _ _ (λ t. t) (λ _ e. cc) (moves-slid _ _ _ _ _ c.in-Failed.ensures.fills.slides)) (c.in-Failed.ensures.fills.text (λ e. cc)) c.in-Failed.ensures.call)

pub returns-in-SourceLong-clause-fault : goal.returns-in-SourceLong-clause-fault
returns-in-SourceLong-clause-fault g c = source_fault

pub returns-in-LineLong-clause-fault : goal.returns-in-LineLong-clause-fault
returns-in-LineLong-clause-fault g c = line_fault

pub returns-in-Failed-clause-unheld : goal.returns-in-Failed-clause-unheld
returns-in-Failed-clause-unheld g c = λ _. c.in-Failed.ensures.fills.bytes
