-- Items: tokens, and marks that stand for actuals.
-- A definition that names no source is this project's own.
use Rattle.std.specs.Prelude.{ℕ, List, [], ◌∷◌}
use Rattle.rdlpp_scan.specs.SourceTokens.{Sort, Broken, SourceToken}

-- an item is a token as written, or a mark: the items that were substituted as one actual, and the macros in whose text
-- they were written (source: this project's profile)
mutual
  pub data Item : Type 0 where
    Written : SourceToken → Item
    Arg : List (List ℕ) → Items → Item

  -- the items of a mark
  pub data Items : Type 0 where
    Nothing : Items
    More : Item → Items → Items

-- the items of a mark as a list
unfoldable pub listed : Items → List Item
listed Nothing = []
listed (More x xs) = x ∷ listed xs

-- a list of items as those of a mark
unfoldable pub packed : List Item → Items
packed [] = Nothing
packed (x ∷ xs) = More x (packed xs)

-- the line of a token that counts: that of a broken one alone
unfoldable pub broken_line : Sort → ℕ → ℕ
broken_line (Broken b) line = line
broken_line s line = 0

-- a token without its line, where it isn't broken
unfoldable pub unlined : SourceToken → SourceToken
unlined t = record { sort = t.sort; bytes = t.bytes; line = broken_line t.sort t.line }

-- an item without its line, if it is a token that isn't broken: each fault in an actual is reported at the line of the outermost usage
-- (source: this project's profile)
unfoldable pub unlined_item : Item → Item
unlined_item (Written t) = Written (unlined t)
unlined_item (Arg o items) = Arg o items
