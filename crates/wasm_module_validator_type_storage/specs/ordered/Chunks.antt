-- A list in chunks, each so short that numbers are moved within one at little cost.
use Rattle.std.specs.Prelude.{◌≡◌, ℕ, ◌+◌, ◌-◌, ◌<◌, ◌≤◌, List, [], ◌∷◌, ◌++◌, length, slice_index, slice_index_or, take, drop, map, All, Vec}
use Rattle.std.specs.List.{concat}
use Rattle.std.specs.declared.alloc.Global.{Global}
use Rattle.std.specs.declared.cmp.Ordering.{Ordering}
use Rattle.std.specs.declared.cmp.Ordering.TheVariants.{Less, Greater}

-- the numbers of each chunk
abbrev pub numbers_of : List (Vec ℕ Global) → List (List ℕ)
numbers_of chunks = map (λ c. c.items) chunks

-- how many numbers a chunk has at most, and how many of them its lower half has where it is cut: CHUNK and HALF of src/adding.rt
abbrev pub most : ℕ
most = 512

abbrev pub half : ℕ
half = 256

-- the size of a chunk
pub record IsChunk (ns : List ℕ) : Type 0 where
  pub some : 0 < length ns
  pub few : length ns ≤ most

-- all chunks are of that size
unfoldable pub AreChunks : List (List ℕ) → Type 0
AreChunks chunks = All IsChunk chunks

-- the chunk at an index
abbrev pub chunk_at : List (List ℕ) → ℕ → List ℕ
chunk_at chunks at = slice_index_or chunks at []

-- the last number of a chunk
abbrev pub last_of : List ℕ → ℕ
last_of ns = slice_index ns (length ns - 1)

-- all chunks before this one are less than what is sought, and all behind it are greater
pub record Belongs (order : ℕ → Ordering) (chunks : List (List ℕ)) (at : ℕ) : Type 0 where
  pub less : All (λ n. order n ≡ Less) (concat (take at chunks))
  pub greater : All (λ n. order n ≡ Greater) (concat (drop (at + 1) chunks))

-- the chunks after the one at an index was cut in two halves
abbrev pub halved_at : ℕ → List (List ℕ) → List (List ℕ)
halved_at at chunks = take at chunks ++ take half (chunk_at chunks at) ∷ drop half (chunk_at chunks at) ∷ drop (at + 1) chunks

-- a chunk that a number can be put into, where what is sought belongs
pub record Takes (order : ℕ → Ordering) (chunks : List (List ℕ)) (at : ℕ) : Type 0 where
  pub within : at < length chunks
  pub sized : AreChunks chunks
  pub room : length (chunk_at chunks at) < most
  pub belongs : Belongs order chunks at

-- a place inside a chunk: the number before it is less than what is sought, and the one that is there is greater
pub record IsInside (order : ℕ → Ordering) (ns : List ℕ) (place : ℕ) : Type 0 where
  pub some : 0 < place
  pub within : place < length ns
  pub less : order (slice_index ns (place - 1)) ≡ Less
  pub greater : order (slice_index ns place) ≡ Greater
