-- Heads at the front of what came (RFC 9112, sections 2 to 5, as `httparse` reads them).
use Rattle.std.specs.Prelude.{ℕ, ◌≤◌, List, [], ◌++◌, length, take}
use Rattle.httparse.specs.Grammar.{RequestHead, ReadsRequest}

-- the first 16,384 bytes, or all where there are no more
unfoldable pub front : List ℕ → List ℕ
front bytes = take 16384 bytes

-- a prefix is this head, of at most 64 fields
abbrev pub BeginsWith : List ℕ → RequestHead → Type 0
BeginsWith bytes h = (rest : List ℕ) × ReadsRequest bytes h rest × (length h.fields ≤ 64)

-- no prefix is a head of at most 64 fields
abbrev pub HasNoHead : List ℕ → Type 0
HasNoHead bytes = (h : RequestHead) → BeginsWith bytes h → ⊥

-- some continuation makes a head of at most 64 fields
abbrev pub MayBecomeHead : List ℕ → Type 0
MayBecomeHead bytes =
    (more : List ℕ) × (h : RequestHead) × ReadsRequest (bytes ++ more) h [] × (length h.fields ≤ 64)
