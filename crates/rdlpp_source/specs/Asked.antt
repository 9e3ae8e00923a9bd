-- What sources in memory tell whose readers share their texts, and what they ask for.
-- A definition that names no source is this project's own.
use Rattle.std.specs.Prelude.{◌≡◌, ℕ, ◌+◌, ◌-◌, ◌^◌, ◌==◌, min, Bool, true, false, List, [], ◌∷◌, length, map, bytes_eq, ◌&&◌, Option, None, Some, nat_lt, Result, Ok, Err, if◌then◌else◌}
use Rattle.std.specs.List.{list_any}
use Rattle.std.specs.Option.{option_map}
use Rattle.std.specs.String.{string_bytes}
use Rattle.std.specs.BTreeMap.{get_by_text}
use Rattle.arrayvec.specs.declared.array_string.ArrayString.{ArrayString}
use Rattle.rdlpp_source.specs.declared.sources.Found.{Found}
use Rattle.rdlpp_source.specs.declared.sources.SourceFault.{SourceFault}
use Rattle.rdlpp_source.specs.declared.sources.SourceFault.TheVariants.{Absent, PathTooLong, Device, NoMemory}
use Rattle.rdlpp_source.specs.Sources.{Answer, Catalog, Missing, Overlong, Present}
use Rattle.rdlpp_source.specs.Search.{candidates, answer_at, first_answer}
use Rattle.rdlpp_source.specs.SharedText.{text_bytes}
use Rattle.rdlpp_source.specs.declared.asked.AskedTexts.{AskedTexts}
use Rattle.rdlpp_source.specs.declared.asked.Standing.{Standing}
use Rattle.rdlpp_source.specs.declared.asked.Standing.TheVariants.{Text, Absent as Gone, Failed}
use Rattle.rdlpp_source.specs.declared.asked.Stop.{Stop}
use Rattle.rdlpp_source.specs.declared.asked.Stop.TheVariants.{Absent as NotThere, PathTooLong as TooLong, Failed as NotOpened, NoMemory as NoRoom, Wanted as NotKnown}

-- what is known of each path (source: this project's profile)
unfoldable pub standing_at : AskedTexts → List ℕ → Option Standing
standing_at texts path = get_by_text texts.known path

-- the text of what is known (source: this project's profile)
abbrev pub standing_text : Option Standing → Option (List ℕ)
standing_text None = None
standing_text (Some (Text text)) = Some (text_bytes text)
standing_text (Some Gone) = None
standing_text (Some Failed) = None

-- what stands at each path (source: this project's profile)
abbrev pub text_at : AskedTexts → List ℕ → Option (List ℕ)
text_at texts path = standing_text (standing_at texts path)

-- the include folders (source: this project's profile)
abbrev pub folders_of : AskedTexts → List (List ℕ)
folders_of texts = map string_bytes texts.folders.items

-- what the searches answer of the texts that are known (source: this project's profile)
abbrev pub asked_catalog : AskedTexts → Catalog
asked_catalog texts = record {
  top = answer_at (text_at texts);
  find = λ from name. first_answer (text_at texts) (candidates (folders_of texts) from name);
}

-- the bytes that are left of a text (source: this project's profile)
abbrev pub unread_of : List ℕ → List ℕ
unread_of left = left

-- what a search comes to: an answer, a candidate that can't be opened, or one of which nothing is known yet (source: this project's profile)
pub data Search : Type 0 where
  Answered : Answer → Search
  SearchFault : Search
  Wanted : List ℕ → Search

-- what a candidate comes to of which this is known: where nothing is, it is wanted by sources that ask, and isn't there in others; nor is it there in others
-- where it can't be opened (source: this project's profile)
abbrev pub known_search : Bool → List ℕ → Option Standing → Search
known_search asks path (Some (Text text)) = Answered (Present path (text_bytes text))
known_search asks path (Some Gone) = Answered Missing
known_search true path (Some Failed) = SearchFault
known_search false path (Some Failed) = Answered Missing
known_search true path None = Wanted path
known_search false path None = Answered Missing

-- what one candidate comes to: more than 1,024 bytes are too long, and nothing stands at a path with an LF byte (source: this project's profile)
abbrev pub search_at : AskedTexts → List ℕ → Search
search_at texts path =
    if nat_lt 1024 (length path) then Answered Overlong
    else (if list_any (λ b. b == 10) path then Answered Missing else known_search texts.asks path (standing_at texts path))

-- what a candidate comes to, or the next one where nothing stands there (source: this project's profile)
abbrev pub search_or : Search → Search → Search
search_or (Answered Missing) next = next
search_or (Answered Overlong) next = Answered Overlong
search_or (Answered (Present path text)) next = Answered (Present path text)
search_or SearchFault next = SearchFault
search_or (Wanted path) next = Wanted path

-- what candidates come to, in order (source: this project's profile)
abbrev pub first_search : AskedTexts → List (List ℕ) → Search
first_search texts [] = Answered Missing
first_search texts (path ∷ paths) = search_or (search_at texts path) (first_search texts paths)

-- what the search for a name comes to (source: this project's profile)
abbrev pub search_of : AskedTexts → List ℕ → List ℕ → Search
search_of texts from name = first_search texts (candidates (folders_of texts) from name)

-- whether a search found a text (source: this project's profile)
abbrev pub is_found : Search → Bool
is_found (Answered Missing) = false
is_found (Answered Overlong) = false
is_found (Answered (Present path text)) = true
is_found SearchFault = false
is_found (Wanted path) = false

-- a search came to this within, or the text that it found had no room for a further reader (source: this project's profile)
abbrev pub Comes : Search → Result (Found (List ℕ)) Stop → Type 0
Comes search (Ok found) = search ≡ Answered (Present found.path.bytes found.reader)
Comes search (Err NotThere) = search ≡ Answered Missing
Comes search (Err TooLong) = search ≡ Answered Overlong
Comes search (Err NotOpened) = search ≡ SearchFault
Comes search (Err NoRoom) = is_found search ≡ true
Comes search (Err (NotKnown path)) = search ≡ Wanted path.bytes

-- a search that failed at a device: a candidate can't be opened, or one is wanted (source: this project's profile)
abbrev pub failed_search : Option (List ℕ) → Search
failed_search None = SearchFault
failed_search (Some path) = Wanted path

-- a search answered so, with the whole text unread; or it failed, with the path that is wanted, where one is; or the text that it found had no room for a further reader (source: this project's profile)
abbrev pub Answers : Search → Result (Found (List ℕ)) SourceFault → Option (List ℕ) → Type 0
Answers search (Ok found) wanted = (search ≡ Answered (Present found.path.bytes found.reader)) × (wanted ≡ None)
Answers search (Err Absent) wanted = (search ≡ Answered Missing) × (wanted ≡ None)
Answers search (Err PathTooLong) wanted = (search ≡ Answered Overlong) × (wanted ≡ None)
Answers search (Err Device) wanted = search ≡ failed_search wanted
Answers search (Err NoMemory) wanted = (is_found search ≡ true) × (wanted ≡ None)

-- the path that is wanted
abbrev pub wanted_of : AskedTexts → Option (List ℕ)
wanted_of texts = option_map (λ (path : ArrayString 1024). path.bytes) texts.wanted

-- the count of device failures as contracts see it: none in sources that don't ask, and in others two more than there were, so that none goes from 0 to 1
unfoldable pub seen_failures : Bool → ℕ → ℕ
seen_failures true failures = min (failures + 2) (2 ^ 64 - 1)
seen_failures false failures = 0

abbrev pub failures_of : AskedTexts → ℕ
failures_of texts = seen_failures texts.asks texts.failures

-- what was known first, and else what is told later (source: this project's profile)
abbrev pub first_known : Option Standing → Option Standing → Option Standing
first_known None later = later
first_known (Some standing) later = Some standing

-- what is told of each path where one is told of, if it counts (source: this project's profile)
abbrev pub told_of : Bool → List ℕ → Standing → List ℕ → Option Standing
told_of counts path standing q = if counts && bytes_eq q path then Some standing else None

-- what was told of a path, if it counts, is known where nothing was known of it, and nothing else changed (source: this project's profile)
abbrev pub Adds : AskedTexts → AskedTexts → Bool → List ℕ → Standing → Type 0
Adds old new counts path standing = (q : List ℕ) → standing_at new q ≡ first_known (standing_at old q) (told_of counts path standing q)

-- what is known stays (source: this project's profile)
abbrev pub Stays : AskedTexts → AskedTexts → Type 0
Stays old new = (q : List ℕ) → standing_at new q ≡ standing_at old q

-- how a search that opened nothing is told: the same, and a candidate that can't be opened or is wanted as a device that failed
abbrev pub Stops : Stop → SourceFault → Option (List ℕ) → Type 0
Stops NotThere fault wanted = (fault ≡ Absent) × (wanted ≡ None)
Stops TooLong fault wanted = (fault ≡ PathTooLong) × (wanted ≡ None)
Stops NotOpened fault wanted = (fault ≡ Device) × (wanted ≡ None)
Stops NoRoom fault wanted = (fault ≡ NoMemory) × (wanted ≡ None)
Stops (NotKnown path) fault wanted = (fault ≡ Device) × (wanted ≡ Some path.bytes)

-- how a search that ended within is told
abbrev pub Ends : Result (Found (List ℕ)) Stop → Result (Found (List ℕ)) SourceFault → Option (List ℕ) → Type 0
Ends (Ok found) result wanted = (result ≡ Ok found) × (wanted ≡ None)
Ends (Err stop) (Ok found) wanted = ⊥
Ends (Err stop) (Err fault) wanted = Stops stop fault wanted
