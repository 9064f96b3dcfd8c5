-- The outer spelling of a module (WebAssembly 3.0, binary format, modules): a header and sections. The contents of a section are
-- bytes here, but for the name of a custom section and the entries of the code section, each a string of bytes.
use Rattle.std.specs.Prelude.{◌≡◌, ◌⊎◌, ℕ, ◌<◌, ◌≤◌, List, [], ◌∷◌, ◌++◌, length, Option, Some, None}
use Rattle.wasm_types.specs.settings.Settings.{Settings}
use Rattle.wasm_types.specs.decoding.Decoder.{Grammar, Many}
use Rattle.wasm_types.specs.decoding.Leb.{IsUnsigned, IsListed}
use Rattle.wasm_types.specs.decoding.Text.{little_endian, IsSized, IsName}
use Rattle.wasm_types.specs.values.Decode.{find}

-- ---- headers

-- a version and a layer: 1 and 0 for a module of this format
pub record Header : Type 0 where
  pub version : ℕ
  pub layer : ℕ

-- standard: binary-magic: magic
-- magic ::= 0x00 0x61 0x73 0x6D
abbrev pub magic : List ℕ
magic = 0x00 ∷ 0x61 ∷ 0x73 ∷ 0x6d ∷ []

-- standard: binary-version: version (differs: its upper two bytes are a layer, which is 0 in a module)
-- the magic number, and two bytes each for the version and the layer, the lowest first; a layer is 0 or 1
pub record SpelledHeader (h : Header) (text : List ℕ) : Type 0 where
  pub version_text : List ℕ
  pub layer_text : List ℕ
  pub version_bytes : length version_text ≡ 2
  pub layer_bytes : length layer_text ≡ 2
  pub version : h.version ≡ little_endian version_text
  pub layer : h.layer ≡ little_endian layer_text
  pub known : h.layer ≤ 1
  pub whole : text ≡ magic ++ (version_text ++ layer_text)

-- ---- sections

-- a section
pub data Part : Type 0 where
  -- a custom section, by its name and what follows it
  custom : List ℕ → List ℕ → Part
  -- the code section, by its entries
  code : List (List ℕ) → Part
  -- another section, by its id and its contents
  section : ℕ → List ℕ → Part

-- the ids of custom sections and of the code section
abbrev pub custom_id : ℕ
custom_id = 0

abbrev pub code_id : ℕ
code_id = 10

-- standard: part of SpelledEntry
-- bytes as they stand
abbrev pub IsBytes : Grammar (List ℕ)
IsBytes xs text = xs ≡ text

-- standard: binary-customsec: custom (differs: a name of at most as many bytes as the limit)
-- custom ::= name byte*
pub record SpelledCustom (z : Settings) (name content text : List ℕ) : Type 0 where
  pub name_text : List ℕ
  pub named : IsName z.limits.string_bytes name name_text
  pub whole : text ≡ name_text ++ content

-- standard: part of SpelledCustom
-- the same of a name and what follows it as a pair
abbrev pub SpelledNamed : Settings → Grammar (List ℕ × List ℕ)
SpelledNamed z c = SpelledCustom z c.0 c.1

-- standard: binary-codesec: code: its size and its bytes
-- code ::= size:u32 code:func, as the bytes of the function
abbrev pub SpelledEntry : Grammar (List ℕ)
SpelledEntry = IsSized IsBytes

-- standard: binary-section: section(X), customsec, codesec
-- section_N(B) ::= N:byte size:u32 en*:B, where the size is that of the contents
abbrev pub SpelledPart : Settings → Grammar Part
SpelledPart z (custom name content) text = (sized : List ℕ) × (text ≡ custom_id ∷ sized) × IsSized (SpelledNamed z) (name, content) sized
SpelledPart z (code entries) text = (sized : List ℕ) × (text ≡ code_id ∷ sized) × IsSized (IsListed SpelledEntry) entries sized
SpelledPart z (section id contents) text = (id ≡ custom_id → ⊥) × (id ≡ code_id → ⊥)
    × ((sized : List ℕ) × (text ≡ id ∷ sized) × IsSized IsBytes contents sized)

-- ---- modules

-- a header and sections
pub record Outer : Type 0 where
  pub header : Header
  pub parts : List Part

-- standard: binary-module: magic, version and sections
-- the frames of a module, of any version and of ids in any order
pub record SpelledOuter (z : Settings) (m : Outer) (text : List ℕ) : Type 0 where
  pub header_text : List ℕ
  pub parts_text : List ℕ
  pub headed : SpelledHeader m.header header_text
  pub each : Many (SpelledPart z) (length m.parts) m.parts parts_text
  pub whole : text ≡ header_text ++ parts_text

-- standard: binary-module: the order of sections
-- The ids in the order of their sections: type, import, function, table, memory, tag, global, export, start, element, data count,
-- code, data; each with its place.
abbrev pub places : List (ℕ × ℕ)
places = (1, 1) ∷ (2, 2) ∷ (3, 3) ∷ (4, 4) ∷ (5, 5) ∷ (13, 6) ∷ (6, 7) ∷ (7, 8) ∷ (8, 9) ∷ (9, 10) ∷ (12, 11) ∷ (10, 12) ∷ (11, 13) ∷ []

-- the place of an id; any other has none, and a custom section stands anywhere
abbrev pub rank : ℕ → Option ℕ
rank id = find places id

-- the id of a section
abbrev pub id_of : Part → ℕ
id_of (custom name content) = custom_id
id_of (code entries) = code_id
id_of (section id contents) = id

-- one more place, if there is one
abbrev pub with_rank : Option ℕ → List ℕ → List ℕ
with_rank (Some r) rs = r ∷ rs
with_rank None rs = rs

-- the places of those sections that have one
abbrev pub ranks : List Part → List ℕ
ranks [] = []
ranks (p ∷ ps) = with_rank (rank (id_of p)) (ranks ps)

-- standard: part of IsOrdered
-- each of these is more than this, and than those before it
abbrev pub Ascends : ℕ → List ℕ → Type 0
Ascends low [] = Unit {0}
Ascends low (r ∷ rs) = (low < r) × Ascends r rs

-- standard: binary-module: sections in order, each at most once
-- sections in order, each at most once
abbrev pub IsOrdered : List Part → Type 0
IsOrdered ps = Ascends 0 (ranks ps)

-- standard: part of CountsAgree
-- the count that contents begin with
pub record Counts (n : ℕ) (contents : List ℕ) : Type 0 where
  pub count : List ℕ
  pub items : List ℕ
  pub counted : IsUnsigned 32 n count
  pub whole : contents ≡ count ++ items

-- standard: part of CountsAgree
-- no section of this id is among them
abbrev pub IsAbsent : ℕ → List Part → Type 0
IsAbsent id [] = Unit {0}
IsAbsent id (p ∷ ps) = (id_of p ≡ id → ⊥) × IsAbsent id ps

-- standard: part of CountsAgree
-- a section of this id, other than code, with this count, is among them
abbrev pub Declares : ℕ → ℕ → List Part → Type 0
Declares id n [] = ⊥
Declares id n (section i contents ∷ ps) = ((i ≡ id) × Counts n contents) ⊎ Declares id n ps
Declares id n (custom name content ∷ ps) = Declares id n ps
Declares id n (code entries ∷ ps) = Declares id n ps

-- standard: part of CountsAgree
-- so many items are counted by a section of this id, none where it is absent
abbrev pub DeclaresOrAbsent : ℕ → ℕ → List Part → Type 0
DeclaresOrAbsent id n ps = Declares id n ps ⊎ ((n ≡ 0) × IsAbsent id ps)

-- standard: part of CountsAgree
-- so many entries stand in the code section, none where it is absent
abbrev pub Defines : ℕ → List Part → Type 0
Defines n [] = n ≡ 0
Defines n (code entries ∷ ps) = n ≡ length entries
Defines n (custom name content ∷ ps) = Defines n ps
Defines n (section id contents ∷ ps) = Defines n ps

-- standard: binary-module: as many functions as bodies, and as many data segments as the data count
-- as many functions are defined as are declared, and as many data segments stand as the data count says, where it is there
pub record CountsAgree (ps : List Part) : Type 0 where
  pub functions : ℕ
  pub declared : DeclaresOrAbsent 3 functions ps
  pub defined : Defines functions ps
  pub segments : (n : ℕ) → Declares 12 n ps → DeclaresOrAbsent 11 n ps

-- standard: binary-module: no section of another id
-- every section is custom or has a place
abbrev pub AreKnown : List Part → Type 0
AreKnown [] = Unit {0}
AreKnown (p ∷ ps) = ((id_of p ≡ custom_id) ⊎ ((r : ℕ) × (rank (id_of p) ≡ Some r))) × AreKnown ps

-- standard: binary-module: module: version 1, sections that are known, in order, and whose counts agree
-- module ::= magic version and sections in order (binary format, modules): version 1, no other layer, no other section
pub record IsCoreModule (m : Outer) : Type 0 where
  pub version : m.header.version ≡ 1
  pub layer : m.header.layer ≡ 0
  pub known : AreKnown m.parts
  pub ordered : IsOrdered m.parts
  pub counts : CountsAgree m.parts
