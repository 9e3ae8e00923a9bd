-- Reading a call from a place in a source: what it comes to by the tokens that remain.
-- A definition that names no source is this project's own.
use Rattle.std.specs.Prelude.{◌≡◌, ℕ, ◌+◌, ◌-◌, ◌≤◌, List, ◌++◌, length}
use Rattle.rdlpp_scan.specs.declared.token.Mode.TheVariants.{Plain}
use Rattle.rdlpp_scan.specs.Pieces.{is_open}
use Rattle.rdlpp_meaning.specs.CallReading.{Reading, ReadClosed, onto_kept, read}
use Rattle.rdlpp_meaning.specs.CallScan.{CallState}
use Rattle.rdlpp_meaning.specs.Expansion.{bytes_of}
use Rattle.rdlpp_read.specs.Buffer.{BufferView, tokens_left, unused_of}

-- what a call keeps of what remains of a source, from where its reading stands, with room for so many kept bytes (source: this
-- project's profile)
unfoldable pub reading : {R : Type 0} → (R → List ℕ) → CallState → ℕ → BufferView R → Reading
reading unread at room f = read at (is_open f.mode) room (tokens_left unread f)

-- reading went on over bytes that are used, of which some are kept: what it comes to is what it comes to from here on, with the
-- kept bytes in front
pub record GoesOn {R : Type 0} (has_known_texts : Type 0) (unread : R → List ℕ) (at to : CallState) (room : ℕ) (kept used : List ℕ) (old new : BufferView R) : Type 0 where
  pub unused : unused_of new + length used ≡ unused_of old
  pub fits : length kept ≤ room
  pub reads : has_known_texts
      → reading unread at room old ≡ onto_kept kept (reading unread to (room - length kept) new)
  pub bytes : has_known_texts
      → bytes_of (tokens_left unread old) ≡ used ++ bytes_of (tokens_left unread new)

-- the call was closed: it keeps these bytes, and what remains of the source are the tokens after its `)`
pub record Closes {R : Type 0} (has_known_texts : Type 0) (unread : R → List ℕ) (at : CallState) (room : ℕ) (kept used : List ℕ) (old new : BufferView R) : Type 0 where
  pub unused : unused_of new + length used ≡ unused_of old
  pub fits : length kept ≤ room
  pub plain : new.mode ≡ Plain
  pub reads : has_known_texts
      → reading unread at room old ≡ ReadClosed kept (tokens_left unread new)
  pub bytes : has_known_texts
      → bytes_of (tokens_left unread old) ≡ used ++ bytes_of (tokens_left unread new)
