-- The sources are taken out of the stream, told, and put back.
use Rattle.std.proofs.Common.{◌≡◌, ℕ, List, Result, Ok, Err, refl, sym, ap, ◌∙◌, subst}
use Rattle.rdlpp_source.specs.Asked.{Adds}
use Rattle.rdlpp_source.specs.declared.asked.AskedTexts.{AskedTexts}
use Rattle.rdlpp_source.specs.declared.asked.Standing.{Standing}
use Rattle.rdlpp_expand.specs.Reading.{ReadingView}
use Rattle.rdlpp_c.specs.Giving.{GivesStanding, Keeps, LeavesParts, TellsPath, given_status}
use Rattle.rdlpp_c.specs.declared.asking.Refusal.{Refusal}
use Rattle.rdlpp_c.specs.declared.asking.Refusal.TheVariants.{BadText, NoMemory}
use Rattle.rdlpp_c.specs.declared.stream.Stream.{Stream}
use Rattle.rdlpp_c.proofs.giving.give.Goals as goal

abbrev Reader : Type 0
Reader = ReadingView AskedTexts (List ℕ)

module _ (path : List ℕ) (standing : Standing) (answer : Result Unit Refusal) (before parted : Stream) (leaves : LeavesParts before parted) where
  keeps : Keeps before.reading.engine.sources before.reading.engine.sources
  keeps = record { stays = λ q. refl; only = refl }

  refuses : TellsPath path standing before.reading.engine.sources before.reading.engine.sources answer → GivesStanding path standing before parted (given_status answer)
  refuses tells =
      subst (λ (s : Stream). GivesStanding path standing before s (given_status answer)) (sym leaves.only)
      (record { answer = answer; tells = tells; is = refl; none = leaves.none; only = refl })

  gives : (empty taken told : AskedTexts) (at after : Reader)
      → taken ≡ parted.reading.engine.sources → at ≡ record parted.reading { engine = record parted.reading.engine { sources = empty } }
      → after ≡ record at { engine = record at.engine { sources = told } } → TellsPath path standing taken told answer
      → GivesStanding path standing before (record parted { reading = after }) (given_status answer)
  gives empty taken told at after old out back tells =
      let same : told ≡ after.engine.sources = ap (λ (r : Reader). r.engine.sources) (sym back) in
      let from : taken ≡ before.reading.engine.sources = old ∙ ap (λ (s : Stream). s.reading.engine.sources) leaves.only in
      let apart : at ≡ record before.reading { engine = record before.reading.engine { sources = empty } }
      = out ∙ ap (λ (s : Stream). record s.reading { engine = record s.reading.engine { sources = empty } }) leaves.only in
      subst (λ (s : Stream). GivesStanding path standing before (record s { reading = after }) (given_status answer)) (sym leaves.only)
      (record {
        answer = answer;
        tells = subst (λ (s : AskedTexts). TellsPath path standing before.reading.engine.sources s answer) same (subst (λ (s : AskedTexts). TellsPath path standing s told answer) from tells);
        is = refl;
        none = leaves.none;
        only = ap (λ (r : Reader). record before { reading = r; parts = parted.parts })
            (back ∙ ap (λ (r : Reader). record r { engine = record r.engine { sources = told } }) apart
            ∙ ap (λ (s : AskedTexts). record before.reading { engine = record before.reading.engine { sources = s } }) same);
      })

pub returns-in-Err-BadText : goal.returns-in-Err-BadText
returns-in-Err-BadText c =
    refuses c.args.path.now c.args.standing (Err BadText) c.args.stream.now _ c.take_parts-parts.ensures.leaves
    (keeps c.args.path.now c.args.standing (Err BadText) c.args.stream.now _ c.take_parts-parts.ensures.leaves, c.in-Err-BadText.ensures c.in-Err-BadText.field-0-is)

pub returns-in-Err-NoMemory : goal.returns-in-Err-NoMemory
returns-in-Err-NoMemory c =
    refuses c.args.path.now c.args.standing (Err NoMemory) c.args.stream.now _ c.take_parts-parts.ensures.leaves
    (keeps c.args.path.now c.args.standing (Err NoMemory) c.args.stream.now _ c.take_parts-parts.ensures.leaves)

pub returns-in-Ok-told : goal.returns-in-Ok-told
returns-in-Ok-told c =
    gives c.args.path.now c.args.standing (Ok tt) c.args.stream.now _ c.take_parts-parts.ensures.leaves _ _ c.tell-told.new.self c.replace_sources-sources.new.self _
    c.replace_sources-sources.ensures.old c.replace_sources-sources.ensures.new c.replace_sources-empty.ensures.new
    (record {
      adds = subst (λ (p : List ℕ). Adds c.replace_sources-sources.result c.tell-told.new.self c.replace_sources-sources.result.asks p c.args.standing) c.in-Ok.ensures c.in-Ok-told.ensures.told;
      only = c.tell-told.ensures.only;
    })

pub returns : goal.returns
returns c =
    gives c.args.path.now c.args.standing (Err NoMemory) c.args.stream.now _ c.take_parts-parts.ensures.leaves _ _ c.tell-told.new.self c.replace_sources-sources.new.self _
    c.replace_sources-sources.ensures.old c.replace_sources-sources.ensures.new c.replace_sources-empty.ensures.new
    (record { stays = c.in-Err.ensures.refused; only = c.tell-told.ensures.only })
