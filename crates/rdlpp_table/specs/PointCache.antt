-- The first expansion points of a body, as they are kept in its entry.
-- A definition that names no source is this project's own.
use Rattle.std.specs.Prelude.{ℕ, zero, suc, ◌+◌, ◌-◌, Bool, nat_le, nat_lt, not, if◌then◌else◌, ◌&&◌, ◌||◌, ◌==◌, List, [], ◌∷◌, length, slice_index, take, drop, Option, Some, None}
use Rattle.std.specs.List.{prefix_len}
use Rattle.rdlpp_scan.specs.Bytes.{is_inert, is_word}
use Rattle.rdlpp_scan.specs.LexFaults.{is_plain_argument}
use Rattle.rdlpp_table.specs.declared.point_cache.PointCache.{PointCache}
use Rattle.rdlpp_table.specs.declared.point_cache.PackedPoint.{PackedPoint}
use Rattle.rdlpp_table.specs.declared.point_cache.PackedKind.{PackedKind}
use Rattle.rdlpp_table.specs.declared.point.ExpansionPoint.{ExpansionPoint}
use Rattle.rdlpp_table.specs.ExpansionPoints.{point_of}
use Rattle.rdlpp_define.specs.Macros.{Formal}
use Rattle.rdlpp_table.specs.declared.point_cache.PackedKind.TheVariants as kept
use Rattle.rdlpp_table.specs.declared.point.ExpansionPoint.TheVariants as point

-- where an expansion point ends, and 0 where there is none
unfoldable pub point_end : ExpansionPoint → ℕ
point_end point.None = 0
point_end (point.Formal at len place) = at + len
point_end (point.Usage at len) = at + len
point_end (point.Bare at) = at + 1

-- what is kept where no expansion point is known to end: there is none, or, with another place than 0, it is unknown
unfoldable pub endless : ℕ → ℕ → PackedPoint
endless place plain_argument = record { end = 65535; len = 0; place = place; plain_argument = plain_argument; kind = kept.None }

-- an expansion point as it is kept, by its numbers: unknown, where these are too large
unfoldable pub placed : PackedKind → ℕ → ℕ → ℕ → ℕ → PackedPoint
placed kind at len place plain_argument =
    if nat_lt at 65535 && (nat_lt len 256 && (nat_lt place 256 && nat_lt (at + len) 65535))
    then record { end = at + len; len = len; place = place; plain_argument = plain_argument; kind = kind }
    else endless 1 0

-- an expansion point as it is kept, with how many plain argument bytes stand first in its text
unfoldable pub kept_of : ExpansionPoint → ℕ → PackedPoint
kept_of point.None plain_argument = endless 0 plain_argument
kept_of (point.Formal at len place) plain_argument = placed kept.Formal at len place plain_argument
kept_of (point.Usage at len) plain_argument = placed kept.Back at len 0 plain_argument
kept_of (point.Bare at) plain_argument = placed kept.Back at 1 1 plain_argument

-- the expansion point of a kind between two places: with another place than 0 a lone backquote, and unknown
unfoldable pub point_by : PackedKind → ℕ → ℕ → ℕ → Option ExpansionPoint
point_by kept.None at len place = if place == 0 then Some point.None else None
point_by kept.Formal at len place = Some (point.Formal at len place)
point_by kept.Back at len place = Some (if place == 0 then point.Usage at len else point.Bare at)

-- the expansion point that is kept, where it is known
unfoldable pub point_kept : PackedPoint → Option ExpansionPoint
point_kept k = point_by k.kind (k.end - k.len) k.len k.place

-- a text that begins at a place, up to its first expansion point
unfoldable pub before_point : ExpansionPoint → ℕ → List ℕ → List ℕ
before_point point.None from text = text
before_point (point.Formal at len place) from text = take (at - from) text
before_point (point.Usage at len) from text = take (at - from) text
before_point (point.Bare at) from text = take (at - from) text

-- how many bytes that can begin no string, no comment and no `<%` a text begins with, as they are kept
unfoldable pub plain_argument_kept : List ℕ → ℕ
plain_argument_kept text = prefix_len is_plain_argument (take 255 text)

-- an expansion point of a text that begins at a place, as it is kept
unfoldable pub kept_point : ExpansionPoint → ℕ → List ℕ → PackedPoint
kept_point s from text = kept_of s (plain_argument_kept (before_point s from text))

-- the first expansion point of a text from a place on, as it is kept: unknown, where the place is too far on
unfoldable pub kept_from : List Formal → List ℕ → ℕ → PackedPoint
kept_from formals text from =
    if nat_lt from 65535 then kept_point (point_of formals from (drop from text)) from (drop from text) else endless 1 0

-- so many first expansion points of a text from a place on, each of them the first one after the one before
unfoldable pub points_after : ℕ → List Formal → List ℕ → ℕ → List PackedPoint
points_after zero formals text from = []
points_after (suc n) formals text from = kept_from formals text from ∷ points_after n formals text (kept_from formals text from).end

-- the first expansion points of a text
unfoldable pub cached_points : List Formal → List ℕ → PointCache
cached_points formals text = record { all = points_after 10 formals text 0 }

-- whether it is known that no token goes on at a place of a text that is read from another one on, after plain argument bytes: it is that place,
-- or an inert byte stands before it
unfoldable pub is_cut : List ℕ → ℕ → ℕ → Bool
is_cut text start from = from == start || is_inert (slice_index text (from - 1))

-- the first expansion point of a range of a text, after whose front no token goes on, where the one that is kept as the first one from a place on
-- tells it, after which so many bytes are plain argument: that one, where it lies in the range, or the range goes up to the end; none, where it
-- begins after the range, and no word goes on there
unfoldable pub point_within : List ℕ → ℕ → PackedPoint → ℕ → Option ExpansionPoint
point_within text reach k to =
    if to == length text || (nat_lt 0 k.len && (nat_le k.end to && nat_le (k.end - k.len) reach)) then point_kept k
    else (if nat_le to (k.end - k.len) && (nat_le to reach && not (is_word (slice_index text to))) then Some point.None
    else None)

-- the first expansion point of a range of a text, where the one that is kept as the first one from a place on tells it
unfoldable pub point_known : List ℕ → ℕ → PackedPoint → ℕ → ℕ → Option ExpansionPoint
point_known text start k from to =
    if from == start || (nat_le from (start + k.plain_argument) && is_cut text start from) then point_within text (start + k.plain_argument) k to else None
