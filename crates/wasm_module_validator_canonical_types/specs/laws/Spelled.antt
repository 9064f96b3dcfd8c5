-- A group that was read has indices of its module alone.
use Rattle.std.proofs.Common.{◌≡◌, inl, inr, ℕ, zero, suc, Bool, true, false, List, [], ◌∷◌, length, map, Option, Some, None, refl, sym, subst, rules}
use Rattle.wasm_types.specs.settings.Settings.{Settings}
use Rattle.wasm_types.specs.decoding.Decoder.{State, Done, Many}
use Rattle.wasm_types.specs.trees.declared.index.UnpackedIndex.{UnpackedIndex}
use Rattle.wasm_types.specs.trees.declared.index.UnpackedIndex.TheVariants as index
use Rattle.wasm_types.specs.trees.Types.{HeapOf, abstract, concrete, exact, ValueOf, number, ref, StorageOf, i8, i16, value, FieldOf, InnerOf, function, array_of, struct_of, continuation}
use Rattle.wasm_types.specs.trees.Each.{EachOption, EachHeap, EachValue, EachStorage, EachValues, EachFields, EachInner, EachEntry}
use Rattle.wasm_types.specs.values.Spells.{SpellsIndex, SpellsExactIndex, SpellsHeap, IsShort, SpellsValue, SpellsStorage}
use Rattle.wasm_types.specs.declared.sub_type.SubType.{SubType}
use Rattle.wasm_types.specs.declared.rec_group.RecGroup.{RecGroup}
use Rattle.wasm_types.specs.Entries.{Declared, first_of, declared_of, subtypes, declared_types}
use Rattle.wasm_types.specs.Spells.{SpellsField, SpellsInner, SpellsOption, SpellsParts, SpellsSub, SpellsGroup}
use Rattle.wasm_types.specs.SpellsTypes.{sub_value, declared_by, group_value}
use Rattle.wasm_types.specs.DecodeTypes.{rec_group}
use Rattle.wasm_types.specs.TypeLaws.{decides-rec_group}
use Rattle.wasm_types.specs.SpellsLaws.{group_to}
use Rattle.wasm_module_validator_canonical_types.specs.Written.{IsModuleIndex, AreModuleIndices}

index_read : (i : UnpackedIndex) (text : List ℕ) → SpellsIndex i text → IsModuleIndex i
index_read (index.Module n) text w = tt
index_read (index.RecGroup p) text w = w
index_read (index.Id j) text w = w

exact_read : (i : UnpackedIndex) (text : List ℕ) → SpellsExactIndex i text → IsModuleIndex i
exact_read (index.Module n) text w = tt
exact_read (index.RecGroup p) text w = w
exact_read (index.Id j) text w = w

heap_read : (h : HeapOf UnpackedIndex) (text : List ℕ) → SpellsHeap h text → EachHeap IsModuleIndex h
heap_read (abstract s a) text w = tt
heap_read (concrete i) text w = index_read i text w
heap_read (exact i) text w = exact_read i w.0 w.2

short_read : (b : Bool) (h : HeapOf UnpackedIndex) (text : List ℕ) → IsShort b h text → EachHeap IsModuleIndex h
short_read true (abstract s a) text w = tt
short_read true (concrete i) text w = absurd w
short_read true (exact i) text w = absurd w
short_read false h text w = absurd w

value_read : (v : ValueOf UnpackedIndex) (text : List ℕ) → SpellsValue v text → EachValue IsModuleIndex v
value_read (number n) text w = tt
value_read (ref b h) text (inl w) = heap_read h w.0 w.2
value_read (ref b h) text (inr w) = short_read b h text w

values_read : (n : ℕ) (vs : List (ValueOf UnpackedIndex)) (text : List ℕ) → Many SpellsValue n vs text → EachValues IsModuleIndex vs
values_read zero [] text w = tt
values_read zero (v ∷ vs) text w = absurd w
values_read (suc n) [] text w = absurd w
values_read (suc n) (v ∷ vs) text w = (value_read v w.0 w.2, values_read n vs w.1 w.3)

storage_read : (s : StorageOf UnpackedIndex) (text : List ℕ) → SpellsStorage s text → EachStorage IsModuleIndex s
storage_read i8 text w = tt
storage_read i16 text w = tt
storage_read (value v) text w = value_read v text w

fields_read : (n : ℕ) (xs : List (FieldOf UnpackedIndex)) (text : List ℕ) → Many SpellsField n xs text → EachFields IsModuleIndex xs
fields_read zero [] text w = tt
fields_read zero (x ∷ xs) text w = absurd w
fields_read (suc n) [] text w = absurd w
fields_read (suc n) (x ∷ xs) text w = let f = w.2 in (storage_read x.storage f.storage f.stored, fields_read n xs w.1 w.3)

inner_read : (z : Settings) (x : InnerOf UnpackedIndex) (text : List ℕ) → SpellsInner z x text → EachInner IsModuleIndex x
inner_read z (function ps rs) text w =
    let s = w.2 in
    (values_read (length ps) ps s.taken.listed.values s.taken.listed.each, values_read (length rs) rs s.given.listed.values s.given.listed.each)
inner_read z (array_of x) text w = let f = w.2 in storage_read x.storage f.storage f.stored
inner_read z (struct_of xs) text w = let l = w.2 in fields_read (length xs) xs l.listed.values l.listed.each
inner_read z (continuation i) text w = exact_read i w.0 w.2

option_read : (tag : ℕ) (o : Option UnpackedIndex) (text : List ℕ) → SpellsOption tag o text → EachOption IsModuleIndex o
option_read tag None text w = tt
option_read tag (Some i) text w = exact_read i w.0 w.2

first_read : (n : ℕ) (is : List UnpackedIndex) (text : List ℕ) → Many SpellsExactIndex n is text → EachOption IsModuleIndex (first_of is)
first_read zero [] text w = tt
first_read zero (i ∷ is) text w = absurd w
first_read (suc n) [] text w = absurd w
first_read (suc n) (i ∷ is) text w = exact_read i w.0 w.2

parts_read : (z : Settings) (d : Declared) (text : List ℕ) → EachOption IsModuleIndex d.entry.supertype
    → SpellsParts z d.entry.shared d.entry.describes d.entry.descriptor d.entry.inner text → EachEntry IsModuleIndex d.entry
parts_read z d text up w = record {
  supertype = up;
  descriptor = option_read 0x4d d.entry.descriptor w.descriptor w.described;
  describes = option_read 0x4c d.entry.describes w.describes w.describing;
  inner = inner_read z d.entry.inner w.inner w.itself;
}

sub_read : (z : Settings) (d : Declared) (text : List ℕ) → SpellsSub z d text → EachEntry IsModuleIndex d.entry
sub_read z d text (inl w) = parts_read z d text (subst (EachOption IsModuleIndex) (sym w.none) tt) w.itself
sub_read z d text (inr w) =
    parts_read z d w.composite (subst (EachOption IsModuleIndex) (sym w.first) (first_read (length d.supertypes) d.supertypes w.above.listed.values w.above.listed.each)) w.itself

subs_read : (z : Settings) (n : ℕ) (ds : List Declared) (text : List ℕ) → Many (SpellsSub z) n ds text → AreModuleIndices ds
subs_read z zero [] text w = tt
subs_read z zero (d ∷ ds) text w = absurd w
subs_read z (suc n) [] text w = absurd w
subs_read z (suc n) (d ∷ ds) text w = (sub_read z d w.0 w.2, subs_read z n ds w.1 w.3)

pub group_read : (z : Settings) (explicit : Bool) (ds : List Declared) (text : List ℕ) → SpellsGroup z explicit ds text → AreModuleIndices ds
group_read z false ds text w = subst AreModuleIndices (sym w.1) (sub_read z w.0 text w.2, tt)
group_read z true ds text w = let l = w.2 in subs_read z (length ds) ds l.listed.values l.listed.each

values_declare : (xs : List SubType) → map declared_by (map sub_value xs) ≡ map declared_of xs
values_declare [] = refl
values_declare (x ∷ xs) =
    let a : declared_by (sub_value x) ≡ declared_of x = search rules in
    let b = values_declare xs in
    cc

pub read_group : (z : Settings) (before after : State) (g : RecGroup) → rec_group z before ≡ Done (group_value g) after → AreModuleIndices (declared_types g)
read_group z before after g e =
    let s = (decides-rec_group z).sound before after (group_value g) e in
    subst AreModuleIndices (values_declare (subtypes g)) (group_read z g.is_explicit (map declared_by (group_value g).types) s.0 (group_to z (group_value g) s.0 s.2))
