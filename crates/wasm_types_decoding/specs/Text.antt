-- Words of some bytes, and what stands behind its size in bytes (WebAssembly 3.0, binary format, values).
use Rattle.std.specs.Prelude.{◌≡◌, ℕ, ◌+◌, ◌*◌, ◌≤◌, List, [], ◌∷◌, ◌++◌, length, nat_lt, if◌then◌else◌}
use Rattle.std.specs.Str.{IsUtf8, is_utf8}
use Rattle.wasm_types_decoding.specs.declared.Refusal.{Refusal}
use Rattle.wasm_types_decoding.specs.declared.Refusal.TheVariants.{Other}
use Rattle.wasm_types_decoding.specs.Decoder.{Decoder, Grammar, ◌>>=◌, pure, refuse, bytes, within}
use Rattle.wasm_types_decoding.specs.Leb.{IsUnsigned, u32}

-- ---- words

-- standard: binary-float: little-endian bytes
-- littleendian: the number whose bytes these are, the lowest first
abbrev pub little_endian : List ℕ → ℕ
little_endian [] = 0
little_endian (b ∷ text) = b + 256 * little_endian text

-- standard: binary-float: fN, and other numbers of fixed width
-- a number in n bytes, the lowest first
pub record IsWord (n v : ℕ) (text : List ℕ) : Type 0 where
  pub count : length text ≡ n
  pub value : v ≡ little_endian text

-- the next n bytes as such a number
unfoldable pub word : ℕ → Decoder ℕ
word n = bytes n >>= λ text. pure (little_endian text)

-- ---- names (values, names)

-- these bytes, if they are UTF-8
abbrev pub if_utf8 : List ℕ → Decoder (List ℕ)
if_utf8 content = if is_utf8 content then pure content else refuse Other 1

-- n bytes of UTF-8
unfoldable pub text_of : ℕ → Decoder (List ℕ)
text_of n = bytes n >>= if_utf8

-- n bytes, whatever they are
unfoldable pub skipped : ℕ → Decoder (Unit {0})
skipped n = bytes n >>= λ text. pure tt

-- a count of at most limit, and what f reads by it
unfoldable pub counted_within : {A : Type 0} → ℕ → (ℕ → Decoder A) → Decoder A
counted_within limit f = u32 >>= λ n. if nat_lt limit n then refuse Other 1 else f n

-- standard: binary-name: name
-- name ::= b*:list(byte) => name  if utf8(name) = b*
pub record IsAnyName (content text : List ℕ) : Type 0 where
  pub count : List ℕ
  pub counted : IsUnsigned 32 (length content) count
  pub utf8 : IsUtf8 content
  pub whole : text ≡ count ++ content

-- standard: impl: name of at most as many bytes as the limit
-- the same, of at most limit bytes
pub record IsName (limit : ℕ) (content text : List ℕ) : Type 0 where
  pub name : IsAnyName content text
  pub within : length content ≤ limit

-- a name of any length
unfoldable pub any_name : Decoder (List ℕ)
any_name = u32 >>= text_of

-- a name of at most limit bytes
abbrev pub name : ℕ → Decoder (List ℕ)
name limit = counted_within limit text_of

-- past a name, whatever its bytes are
abbrev pub skipped_name : ℕ → Decoder (Unit {0})
skipped_name limit = counted_within limit skipped

-- ---- parts behind their size

-- x in exactly n bytes
abbrev pub Within : {A : Type 0} → ℕ → Grammar A → Grammar A
Within n g x text = (length text ≡ n) × g x text

-- standard: binary-section: size and content, as of a section and of a function's code
-- a size, and x in exactly as many bytes
pub record IsSized {A : Type 0} (g : Grammar A) (x : A) (text : List ℕ) : Type 0 where
  pub size : List ℕ
  pub content : List ℕ
  pub counted : IsUnsigned 32 (length content) size
  pub spelled : g x content
  pub whole : text ≡ size ++ content

-- the first fault is of a part that ends too early, the other of one with bytes left
unfoldable pub sized : {A : Type 0} → Refusal → Refusal → Decoder A → Decoder A
sized early late d = u32 >>= λ n. within early late n d
