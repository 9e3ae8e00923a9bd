-- Open texts as they lie in frames, with the ranges that calls have bound.
-- A definition that names no source is this project's own.
use Rattle.std.specs.Prelude.{◌≡◌, ℕ, ◌+◌, ◌*◌, ◌<◌, ◌≤◌, ◌==◌, nat_le, nat_lt, ◌||◌, Bool, false, true, List, [], ◌∷◌, map, length, take, drop, vec_capacity, Vec, Option, None, Some}
use Rattle.std.specs.List.{AllByRecursion}
use Rattle.rdlpp_scan.specs.declared.token.Mode.TheVariants.{Plain}
use Rattle.rdlpp_meaning.specs.Opens.{OpenKind, OpenBody, OpenActual, OpenDefault, Open}
use Rattle.rdlpp_texts.specs.BoundCalls.{range_part}
use Rattle.rdlpp_texts.specs.declared.bindings.Range.{Range}
use Rattle.rdlpp_texts.specs.declared.place.TextSource.{TextSource}
use Rattle.rdlpp_texts.specs.declared.place.TextSource.TheVariants as source
use Rattle.rdlpp_texts.specs.Scopes.{own_ids, hidden_ids}
use Rattle.rdlpp_texts.specs.declared.frame.Bounds.{Bounds}
use Rattle.rdlpp_texts.specs.declared.frame.Frame.{Frame}
use Rattle.rdlpp_texts.specs.declared.frame.FrameKind.{FrameKind}
use Rattle.rdlpp_texts.specs.declared.frame.FrameKind.TheVariants.{Body, Actual, Default}

-- what a frame's text is, where these ranges are bound when it is the innermost: those from its first one on are its own
abbrev pub kind_of : FrameKind → List Range → OpenKind
kind_of (Body id first) bindings = OpenBody id (map range_part (drop first bindings))
kind_of Actual bindings = OpenActual
kind_of (Default id place) bindings = OpenDefault id place

-- the ranges that are bound around it
abbrev pub bindings_below : FrameKind → List Range → List Range
bindings_below (Body id first) bindings = take first bindings
bindings_below Actual bindings = bindings
bindings_below (Default id place) bindings = bindings

-- a frame as an open text
abbrev pub open_of : Frame → List Range → Open
open_of frame bindings = record {
  part = record { from = frame.from; end = frame.end; mode = Plain };
  parent = frame.parent;
  kind = kind_of frame.kind bindings;
}

-- frames as open texts, the innermost first
unfoldable pub opens_of : List Frame → List Range → List Open
opens_of [] bindings = []
opens_of (frame ∷ below) bindings = open_of frame bindings ∷ opens_of below (bindings_below frame.kind bindings)

-- the ranges are those of the open bodies, each of which has at most 255 (source: this project's profile)
unfoldable pub AreLaid : List Frame → List Range → Type 0
AreLaid [] bindings = length bindings ≡ 0
AreLaid (frame ∷ below) bindings =
    (length bindings ≤ 255 * length (frame ∷ below)) × AreLaid below (bindings_below frame.kind bindings)

-- what a contract sees of the open texts: the texts, the innermost first; the line of the usage in the source that opened
-- them; and how many may be open
pub record CursorsView : Type 0 where
  pub opens : List Open
  pub line : ℕ
  pub depth : ℕ

-- how many ranges an open text has bound
abbrev pub bound_in : OpenKind → ℕ
bound_in (OpenBody id parts) = length parts
bound_in OpenActual = 0
bound_in (OpenDefault id place) = 0

-- how many ranges open texts have bound
unfoldable pub bound_by : List Open → ℕ
bound_by [] = 0
bound_by (x ∷ below) = bound_in x.kind + bound_by below

-- the macro whose body an open text is, if it is one
abbrev pub body_id : OpenKind → Option ℕ
body_id (OpenBody id parts) = Some id
body_id OpenActual = None
body_id (OpenDefault id place) = None

-- the macro of the usage in the source that opened the texts: that of the outermost one
unfoldable pub usage_id : List Open → Option ℕ
usage_id [] = None
usage_id (x ∷ []) = body_id x.kind
usage_id (x ∷ (y ∷ below)) = usage_id (y ∷ below)

-- the outermost text stays, while one is open
abbrev pub StaysOutermost : List Open → List Open → Type 0
StaysOutermost old new = 0 < length new → usage_id new ≡ usage_id old

-- a macro is neither below the least one nor above the greatest
abbrev pub IsWithin : Bounds → ℕ → Type 0
IsWithin bounds id = (bounds.least ≤ id) × (id ≤ bounds.greatest)

-- whether bounds tell that a macro isn't within them
abbrev pub is_excluded : Bounds → ℕ → Bool
is_excluded bounds id = nat_lt id bounds.least || nat_lt bounds.greatest id

-- the macros in whose text the own scope of each frame is are within its bounds
unfoldable pub AreBounded : List Frame → Type 0
AreBounded [] = Unit
AreBounded (frame ∷ below) =
    AllByRecursion (IsWithin frame.bounds) (own_ids (kind_of frame.kind []) (hidden_ids (opens_of below []) frame.parent)) × AreBounded below

-- how the frames and the ranges lie: the open texts stand from `first` on, no more frames are made than texts may be open, and there
-- is memory for so many; and for the ranges of one body more, since a call is bound before a frame is sought (source: this
-- project's profile)
pub record IsStack {A : Type 0} (frames : List Frame) (memory depth first : ℕ) (bindings : Vec Range A) : Type 0 where
  pub inside : first ≤ length frames
  pub few : length frames ≤ depth
  pub reserved : depth ≤ memory
  pub laid : AreLaid (drop first frames) bindings.items
  pub bounded : AreBounded (drop first frames)
  pub room : vec_capacity bindings ≡ 255 * (depth + 1)

-- a frame may be opened at a place, after which the frames that are open stand as they did
pub record IsFree (frames wide : List Frame) (depth first place : ℕ) : Type 0 where
  pub kept : drop (place + 1) wide ≡ drop first frames
  pub inside : place < length wide
  pub few : length wide ≤ depth

-- what is no body
abbrev pub IsNoBody : FrameKind → Type 0
IsNoBody (Body id first) = ⊥
IsNoBody Actual = Unit
IsNoBody (Default id place) = Unit

-- open texts of which the innermost goes on at a place
unfoldable pub moved_to : ℕ → List Open → List Open
moved_to at [] = []
moved_to at (x ∷ below) = record { part = record { from = at; end = x.part.end; mode = Plain }; parent = x.parent; kind = x.kind } ∷ below

-- whether nothing is left of the innermost open text
unfoldable pub is_spent : List Open → Bool
is_spent [] = true
is_spent (x ∷ below) = nat_le x.part.end x.part.from

-- each parent of the frames is a scope further out
abbrev pub AreParentedFrames : List Frame → Type 0
AreParentedFrames [] = Unit
AreParentedFrames (frame ∷ below) = (frame.parent ≤ length below) × AreParentedFrames below

-- whether a frame has the body of a macro
abbrev pub is_body_of : FrameKind → ℕ → Bool
is_body_of (Body own first) id = id == own
is_body_of Actual id = false
is_body_of (Default own place) id = false

-- the scope in which the call of a frame's text is written, and the source for an actual, which is no scope
abbrev pub kind_outer : FrameKind → ℕ → ℕ
kind_outer (Body id first) parent = parent
kind_outer Actual parent = 0
kind_outer (Default id place) parent = parent

-- that of a frame
abbrev pub outer_of : Frame → ℕ
outer_of frame = kind_outer frame.kind frame.parent

-- where the text of a frame lies, if it is a body or a default
abbrev pub frame_source : FrameKind → TextSource
frame_source (Body id first) = source.Body id
frame_source Actual = source.Arguments
frame_source (Default id place) = source.Default id place

-- how many of so many ranges are kept where a frame is closed
abbrev pub kept_by : FrameKind → ℕ → ℕ
kept_by (Body id first) n = first
kept_by Actual n = n
kept_by (Default id place) n = n
