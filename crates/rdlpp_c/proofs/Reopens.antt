-- What is opened in the place of another output is what a call asks for.
use Rattle.std.proofs.Common.{◌≡◌, ◌∙◌, ℕ, List, IfOk, IfSome, Option, Result, Ok, Err, ap, refl, subst, sym, string_bytes}
use Rattle.rdlpp_define.specs.Limits.{limit_fault}
use Rattle.rdlpp_source.specs.declared.asked.AskedTexts.{AskedTexts}
use Rattle.rdlpp_expand.specs.Reading.{ReadingView}
use Rattle.rdlpp_expand.specs.declared.writing.RunFault.{RunFault}
use Rattle.rdlpp.specs.Opening.{Reopens, ReopensOutput}
use Rattle.rdlpp.specs.Preprocess.{given_by, output_of}
use Rattle.rdlpp.specs.declared.fault.PrepFault.TheVariants.{Run}
use Rattle.rdlpp_c.specs.Reopening.{IsUnread, TellsOpening}
use Rattle.rdlpp_c.specs.Request.{Asked}
use Rattle.rdlpp_c.specs.Streaming.{FaultBuffers, Opens, OpensOwned, OpensStream, opened, owned_sources}
use Rattle.rdlpp_c.specs.declared.asking.Answer.{Answer}
use Rattle.rdlpp_c.specs.declared.asking.Answer.TheVariants.{Stopped}
use Rattle.rdlpp_c.specs.declared.opening.Owned.{Owned}
use Rattle.rdlpp_c.specs.declared.stream.Stream.{Stream}
use Rattle.rdlpp_c.specs.declared.telling.Outcome.{Outcome as Numbers}
use Rattle.rdlpp_c.proofs.Outputs.{refused, streams}
use Rattle.rdlpp_c.proofs.Quiet.{opening_asks, quiet_opening}

-- a reading that was opened again is that of the stream
pub streams_again : (owned : Owned) (reading : ReadingView AskedTexts (List ℕ)) (stream : Stream)
    → Reopens owned_sources owned.options owned.sources (string_bytes owned.path) reading (Ok tt)
    → ReopensOutput owned_sources (output_of owned_sources owned.options owned.sources (string_bytes owned.path)) reading (Ok tt)
    → stream.reading ≡ reading → stream.path ≡ owned.path → stream.pieces ≡ owned.pieces → OpensOwned owned (Ok stream)
streams_again owned reading stream opens output same path pieces = λ a are in_range.
    streams a owned reading stream are in_range output
    (opening_asks owned.options.limits (given_by owned.options) owned.options.origins owned.sources _ reading opens)
    (quiet_opening owned.options.limits (given_by owned.options) owned.options.origins owned.sources _ reading opens)
    same path pieces

-- a definition that is refused is told
pub declined_again : (owned : Owned) (reading : ReadingView AskedTexts (List ℕ)) (run : RunFault)
    → Reopens owned_sources owned.options owned.sources (string_bytes owned.path) reading (Err run) → OpensOwned owned (Err (Stopped run))
declined_again owned reading run opens = λ a are in_range.
    refused a owned (Run run) _ are in_range (ap limit_fault are.asks.limits ∙ in_range, opens.0, opens.1) refl

-- what is opened and told is what a call asks for
pub opens_told : (a : Asked) (answer : Result Stream Answer) (old new : FaultBuffers) (held : Option Stream) (outcome : Numbers)
    → OpensStream a answer → TellsOpening answer old new held outcome → Opens a old new held outcome
opens_told a answer old new held outcome comes tells = record {
  answer = answer;
  comes = comes;
  holds = tells.holds;
  numbers = tells.numbers;
  name = tells.name;
  word = tells.word;
}

-- and nothing was read of it
pub unread_told : (answer : Result Stream Answer) (old new : FaultBuffers) (held : Option Stream) (outcome : Numbers)
    → IfOk answer IsUnread → TellsOpening answer old new held outcome → IfSome held IsUnread
unread_told answer old new held outcome unread tells = subst (λ o. IfSome o IsUnread) (sym tells.holds) (by answer unread)
  where
    by : (answer : Result Stream Answer) → IfOk answer IsUnread → IfSome (opened answer) IsUnread
    by (Ok stream) unread = unread
    by (Err answer) unread = tt
