-- What is kept of texts that are given once, and what such a give does.
-- A definition that names no source is this project's own.
use Rattle.std.specs.Prelude.{◌≡◌, ℕ, ◌==◌, ◌&&◌, Bool, true, false, not, List, length, bytes_eq, Option, None, Some, if◌then◌else◌}
use Rattle.std.specs.Option.{is_none, option_map}
use Rattle.std.specs.String.{string_bytes}
use Rattle.std.specs.BTreeMap.{get_by_text}
use Rattle.rdlpp_c.specs.Digest.{digest_of}
use Rattle.rdlpp_source.specs.Asked.{first_known, standing_at, standing_text, told_of}
use Rattle.rdlpp_source.specs.declared.asked.AskedTexts.{AskedTexts}
use Rattle.rdlpp_source.specs.declared.asked.Standing.{Standing}
use Rattle.rdlpp_source.specs.declared.asked.Standing.TheVariants.{Failed}
use Rattle.rdlpp_c.specs.declared.once.Given.{Given}
use Rattle.rdlpp_c.specs.declared.once.Given.TheVariants.{Known, Taken, Other}
use Rattle.rdlpp_c.specs.declared.once.Mark.{Mark}
use Rattle.rdlpp_c.specs.declared.once.Once.{Once}

-- the mark of a text: its length and its digest
abbrev pub mark_of : List ℕ → Mark
mark_of text = record { length = length text; digest = digest_of text }

-- the mark of the text that was given of each path
unfoldable pub mark_at : Once → List ℕ → Option Mark
mark_at once path = get_by_text once.marks path

-- the path whose text is known until the next one is given
abbrev pub last_of : Once → Option (List ℕ)
last_of once = option_map string_bytes once.last

-- whether a text isn't the one that was given of its path before, by the marks of both
abbrev pub is_other : Option Mark → Mark → Bool
is_other None mark = false
is_other (Some first) mark = not (first.length == mark.length && first.digest == mark.digest)

-- what is known at a path but for one, if there is one
abbrev pub without : Option (List ℕ) → Option Standing → List ℕ → Option Standing
without None standing q = standing
without (Some path) standing q = if bytes_eq q path then None else standing

-- what is known of a path once the text that was given last is forgotten
abbrev pub freed_at : Once → AskedTexts → List ℕ → Option Standing
freed_at once sources q = without (last_of once) (standing_at sources q) q

-- the text that was given last is forgotten
pub record Frees (once : Once) (old new : AskedTexts) : Type 0 where
  pub frees : (q : List ℕ) → standing_at new q ≡ freed_at once old q
  pub only : new ≡ record old { known = new.known }

-- whether something can be told of a path: by sources that ask, where nothing is known of it
abbrev pub is_open : Bool → Option Standing → Bool
is_open asks standing = asks && is_none standing

-- what is known stays, but for the text that was given last
pub record Stands (at : List ℕ → Option Standing) (before : Once) (new : AskedTexts) (after : Once) : Type 0 where
  pub stays : (q : List ℕ) → standing_at new q ≡ at q
  pub marks : (q : List ℕ) → mark_at after q ≡ mark_at before q
  pub last : last_of after ≡ None

-- a text is taken: it is what is known of its path until the next one is given, and its mark is kept
pub record TakesText (at : List ℕ → Option Standing) (path text : List ℕ) (before : Once) (new : AskedTexts) (after : Once) : Type 0 where
  pub standing : Standing
  pub told : standing_text (Some standing) ≡ Some text
  pub adds : (q : List ℕ) → standing_at new q ≡ first_known (at q) (told_of true path standing q)
  pub marks : (q : List ℕ) → mark_at after q ≡ (if bytes_eq q path then Some (mark_of text) else mark_at before q)
  pub last : last_of after ≡ Some path

-- a source can't be opened, since its text is another one than before
pub record Refuses (at : List ℕ → Option Standing) (path : List ℕ) (before : Once) (new : AskedTexts) (after : Once) : Type 0 where
  pub adds : (q : List ℕ) → standing_at new q ≡ first_known (at q) (told_of true path Failed q)
  pub marks : (q : List ℕ) → mark_at after q ≡ mark_at before q
  pub last : last_of after ≡ None

-- what a give of a path's text does, by what was known of each path: nothing where something is known of it; else the text is taken where none was given of the path before, or one of the same mark; and else it is refused
abbrev pub GivenOnce : (List ℕ → Option Standing) → Bool → List ℕ → List ℕ → Once → AskedTexts → Once → Given → Type 0
GivenOnce at asks path text before new after Known = (is_open asks (at path) ≡ false) × Stands at before new after
GivenOnce at asks path text before new after Taken = (is_open asks (at path) ≡ true) × (is_other (mark_at before path) (mark_of text) ≡ false) × TakesText at path text before new after
GivenOnce at asks path text before new after Other = (is_open asks (at path) ≡ true) × (is_other (mark_at before path) (mark_of text) ≡ true) × Refuses at path before new after
