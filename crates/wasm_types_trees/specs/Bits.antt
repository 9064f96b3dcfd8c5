-- An index in 22 bits: its number in the low 20, and which of the three kinds it is above them.
use Rattle.std.proofs.Common.{◌≡◌, ℕ, ◌+◌, ◌-◌, ◌*◌, ◌<◌, ◌^◌, ap, arith, ltb, inl, inr, true, false}
use Rattle.std.specs.Prelude.{nat_lt, if◌then◌else◌}
use Rattle.std.proofs.lemmas.Bool.{cases_lt, lt-ltb, le-ltb}
use Rattle.wasm_types_trees.specs.declared.index.UnpackedIndex.{UnpackedIndex}
use Rattle.wasm_types_trees.specs.declared.index.UnpackedIndex.TheVariants.{Module, RecGroup, Id}
use Rattle.wasm_types_trees.specs.Indices.{number_of, kind_of}

-- the index that 22 bits hold
abbrev pub unpacked : ℕ → UnpackedIndex
unpacked bits = if nat_lt bits 0x10_0000 then Module bits else if nat_lt bits 0x20_0000 then RecGroup (bits - 0x10_0000) else Id
    (record { 0 = bits - 0x20_0000 })

-- the bits of an index
abbrev pub packed : UnpackedIndex → ℕ
packed i = 0x10_0000 * kind_of i + number_of i

-- packing gives the bits back
pub packed-unpacked : (bits : ℕ) → packed (unpacked bits) ≡ bits
packed-unpacked bits = elim (cases_lt bits 0x10_0000) [
  | inl low ↦ let e : ltb bits 0x10_0000 ≡ true = lt-ltb _ _ low in rw e (omega arith)
  | inr high ↦ let e : ltb bits 0x10_0000 ≡ false = le-ltb _ _ high in elim (cases_lt bits 0x20_0000) [
    | inl middle ↦ let f : ltb bits 0x20_0000 ≡ true = lt-ltb _ _ middle in rw (e, f) (omega arith)
    | inr top ↦ let f : ltb bits 0x20_0000 ≡ false = le-ltb _ _ top in rw (e, f) (omega arith)
  ]
]

-- and unpacking gives the index back, where its number fits
pub unpacked-packed : (i : UnpackedIndex) → number_of i < 2 ^ 20 → unpacked (packed i) ≡ i
unpacked-packed (Module n) h =
    let e : ltb (packed (Module n)) 0x10_0000 ≡ true = lt-ltb _ _ (omega arith) in
    rw e (ap Module (omega arith))
unpacked-packed (RecGroup n) h =
    let e : ltb (packed (RecGroup n)) 0x10_0000 ≡ false = le-ltb _ _ (omega arith) in
    let f : ltb (packed (RecGroup n)) 0x20_0000 ≡ true = lt-ltb _ _ (omega arith) in
    rw (e, f) (ap RecGroup (omega arith))
unpacked-packed (Id i) h =
    let e : ltb (packed (Id i)) 0x10_0000 ≡ false = le-ltb _ _ (omega arith) in
    let f : ltb (packed (Id i)) 0x20_0000 ≡ false = le-ltb _ _ (omega arith) in
    rw (e, f) (ap (λ (n : ℕ). Id (record { 0 = n })) (omega arith))

-- the number of what the bits of an index hold fits
pub number-fits : (bits : ℕ) → bits < 3 * 2 ^ 20 → number_of (unpacked bits) < 2 ^ 20
number-fits bits h = elim (cases_lt bits 0x10_0000) [
  | inl low ↦ let e : ltb bits 0x10_0000 ≡ true = lt-ltb _ _ low in rw e low
  | inr high ↦ let e : ltb bits 0x10_0000 ≡ false = le-ltb _ _ high in elim (cases_lt bits 0x20_0000) [
    | inl middle ↦ let f : ltb bits 0x20_0000 ≡ true = lt-ltb _ _ middle in rw (e, f) (omega arith)
    | inr top ↦ let f : ltb bits 0x20_0000 ≡ false = le-ltb _ _ top in rw (e, f) (omega arith)
  ]
]
