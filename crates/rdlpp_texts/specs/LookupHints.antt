-- Where the macros of names are guessed to be.
-- A definition that names no source is this project's own.
use Rattle.std.specs.Prelude.{ℕ, ◌+◌, ◌-◌, ◌*◌, ◌%◌, ◌==◌, List, length, slice_index, if◌then◌else◌}

-- the key of a name, by its last byte and its length, and among those that these give alike by the byte before the last
unfoldable pub key_of : List ℕ → ℕ
key_of name =
    if length name == 0 then 0
    else (slice_index name (length name - 1) + length name + 64 * slice_index name (length name - 2)) % 512
