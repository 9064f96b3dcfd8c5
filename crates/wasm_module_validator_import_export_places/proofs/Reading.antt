-- Entries that are read one after the other.
use Rattle.std.proofs.Common.{◌≡◌, ◌≤◌, ◌<◌, ◌+◌, ◌-◌, ◌∙◌, ℕ, suc, zero, List, [], ◌∷◌, ◌++◌, length, drop, take, get_or, slice_set, slice_index_or, refl, sym, ap, subst, arith, append_assoc}
use Rattle.std.proofs.lemmas.List.{take_all}
use Rattle.wasm_types.specs.decoding.Decoder.{Many}
use Rattle.wasm_types.specs.settings.Settings.{Settings}
use Rattle.wasm_sections_items.specs.imports.Spells.{ImportTree, ExportTree, SpelledImport, SpelledExport}
use Rattle.wasm_module_validator_import_export_places.specs.declared.rows.ImportRow.{ImportRow}
use Rattle.wasm_module_validator_import_export_places.specs.declared.rows.ExportRow.{ExportRow}
use Rattle.wasm_module_validator_import_export_places.specs.Entries.{TellsImport, TellsExport, TellsNumbered, Rows, First, numbered, none_taken, import_kind}

-- ---- rows

-- one more row was written
rows_more : {E R : Type 0} (tells : E → R → Type 0) (es : List E) (rows : List R) (i : ℕ) (e : E) (more : List E) (row : R) → drop i es ≡ e ∷ more → tells e row
    → Rows tells (take i es) rows → Rows tells (take (suc i) es) (slice_set rows i row)
rows_more tells [] rows zero e more row q t h = absurd cc
rows_more tells (x ∷ es) [] zero e more row q t h = tt
rows_more tells (x ∷ es) (r ∷ rows) zero e more row q t h = let k : e ≡ x = cc in (subst (λ y. tells y row) k t, tt)
rows_more tells [] rows (suc i) e more row q t h = absurd cc
rows_more tells (x ∷ es) [] (suc i) e more row q t h = tt
rows_more tells (x ∷ es) (r ∷ rows) (suc i) e more row q t h = (h.0, rows_more tells es rows i e more row q t h.1)

drop_next : {A : Type 0} (xs : List A) (i : ℕ) (x : A) (more : List A) → drop i xs ≡ x ∷ more → drop (suc i) xs ≡ more
drop_next [] zero x more e = absurd cc
drop_next (y ∷ xs) zero x more e = cc
drop_next [] (suc i) x more e = absurd cc
drop_next (y ∷ xs) (suc i) x more e = drop_next xs i x more e

first_next : {R : Type 0} (P : R → Type 0) (rows : List R) (i : ℕ) (row : R) → P row → First P i rows → First P (suc i) (slice_set rows i row)
first_next P [] i row p h = tt
first_next P (x ∷ rows) zero row p h = (p, tt)
first_next P (x ∷ rows) (suc i) row p h = (h.0, first_next P rows i row p h.1)

-- the same of rows of any bytes
pub first_more : {R : Type 0} (P : R → Type 0) (rows : List R) (i : ℕ) (row : R) (now : List R) → P row → First P i rows → now ≡ slice_set rows i row → First P (i + 1) now
first_more P rows i row now p h q =
    let k : suc i ≡ i + 1 = omega arith in
    subst (First P (i + 1)) (sym q) (subst (λ n. First P n (slice_set rows i row)) k (first_next P rows i row p h))

pub first_all : {R : Type 0} (P : R → Type 0) (rows : List R) (i n : ℕ) → i ≡ n → First P i rows → First P n rows
first_all P rows i n e h = subst (λ m. First P m rows) e h

-- ---- what is left

-- the next of some values, and those behind it
pub record Next {A : Type 0} (g : A → List ℕ → Type 0) (xs : List A) (i : ℕ) (left : List ℕ) : Type 0 where
  pub value : A
  pub more : List A
  pub front : List ℕ
  pub back : List ℕ
  pub here : drop i xs ≡ value ∷ more
  pub behind : drop (i + 1) xs ≡ more
  pub spelled : g value front
  pub others : Many g (length xs - (i + 1)) more back
  pub whole : left ≡ front ++ back

next_of : {A : Type 0} (g : A → List ℕ → Type 0) (xs : List A) (i n : ℕ) (left : List ℕ) (ys : List A) → drop i xs ≡ ys → length xs - i ≡ suc n → n ≡ length xs - (i + 1) → Many g (suc n) ys left
    → Next g xs i left
next_of g xs i n left [] d e f m = absurd m
next_of g xs i n left (y ∷ ys) d e f (front, back, h, more, whole) =
    let k : suc i ≡ i + 1 = omega arith in
    record {
      value = y;
      more = ys;
      front = front;
      back = back;
      here = d;
      behind = subst (λ (j : ℕ). drop j xs ≡ ys) k (drop_next xs i y ys d);
      spelled = h;
      others = subst (λ (j : ℕ). Many g j ys back) f more;
      whole = whole;
    }

pub next_in : {A : Type 0} (g : A → List ℕ → Type 0) (xs : List A) (i : ℕ) (left : List ℕ) → i < length xs → Many g (length xs - i) (drop i xs) left → Next g xs i left
next_in g xs i left h m =
    let e : length xs - i ≡ suc (length xs - (i + 1)) = omega arith in
    next_of g xs i (length xs - (i + 1)) left (drop i xs) refl e refl (subst (λ (j : ℕ). Many g j (drop i xs) left) e m)

-- where the next stands
pub next_stands : {A : Type 0} (g : A → List ℕ → Type 0) (xs : List A) (i : ℕ) (left text rest : List ℕ) (j : ℕ) (n : Next g xs i left) → drop j text ≡ left ++ rest
    → drop j text ≡ n.front ++ (n.back ++ rest)
next_stands g xs i left text rest j n e = e ∙ ap (λ (v : List ℕ). v ++ rest) n.whole ∙ append_assoc n.front n.back rest

-- ---- exports

abbrev pub Exported : List ℕ → ExportTree → ExportRow → Type 0
Exported text e row = TellsExport text row e

pub record ExportsGo (z : Settings) (xs : List ExportTree) (rest text : List ℕ) (i at_offset : ℕ) (rows : List ExportRow) : Type 0 where
  pub left : List ℕ
  pub each : Many (SpelledExport z) (length xs - i) (drop i xs) left
  pub stands : drop at_offset text ≡ left ++ rest
  pub told : Rows (Exported text) (take i xs) rows

pub exports_more : (z : Settings) (xs : List ExportTree) (rest text : List ℕ) (i j end : ℕ) (rows now : List ExportRow) (row : ExportRow) → i < length xs → ExportsGo z xs rest text i j rows
    → ((e : ExportTree) (front behind : List ℕ) → SpelledExport z e front → drop j text ≡ front ++ behind → TellsExport text row e × (drop end text ≡ behind))
    → now ≡ slice_set rows i row → ExportsGo z xs rest text (i + 1) end now
exports_more z xs rest text i j end rows now row h go found q =
    let n = next_in (SpelledExport z) xs i go.left h go.each in
    let f = found n.value n.front (n.back ++ rest) n.spelled (next_stands (SpelledExport z) xs i go.left text rest j n go.stands) in
    let k : suc i ≡ i + 1 = omega arith in
    let told = rows_more (Exported text) xs rows i n.value n.more row n.here f.0 go.told in
    record {
      left = n.back;
      each = subst (λ (ys : List ExportTree). Many (SpelledExport z) (length xs - (i + 1)) ys n.back) (sym n.behind) n.others;
      stands = f.1;
      told = subst (λ (rs : List ExportRow). Rows (Exported text) (take (i + 1) xs) rs) (sym q) (subst (λ (m : ℕ). Rows (Exported text) (take m xs) (slice_set rows i row)) k told);
    }

pub exports_stop : (z : Settings) (xs : List ExportTree) (rest text : List ℕ) (i j : ℕ) (rows : List ExportRow) → i < length xs → ExportsGo z xs rest text i j rows
    → ((e : ExportTree) (front behind : List ℕ) → SpelledExport z e front → drop j text ≡ front ++ behind → ⊥) → ⊥
exports_stop z xs rest text i j rows h go none =
    let n = next_in (SpelledExport z) xs i go.left h go.each in
    none n.value n.front (n.back ++ rest) n.spelled (next_stands (SpelledExport z) xs i go.left text rest j n go.stands)

pub exports_all : (z : Settings) (xs : List ExportTree) (rest text : List ℕ) (i j : ℕ) (rows : List ExportRow) → length xs ≤ i → ExportsGo z xs rest text i j rows → Rows (Exported text) xs rows
exports_all z xs rest text i j rows h go = subst (λ (ys : List ExportTree). Rows (Exported text) ys rows) (take_all i xs h) go.told

-- ---- imports

pub record ImportsGo (z : Settings) (xs : List ImportTree) (rest text : List ℕ) (i at_offset : ℕ) (taken : List ℕ) (rows : List ImportRow) : Type 0 where
  pub left : List ℕ
  pub each : Many (SpelledImport z) (length xs - i) (drop i xs) left
  pub stands : drop at_offset text ≡ left ++ rest
  pub same : drop i (numbered none_taken xs) ≡ numbered taken (drop i xs)
  pub told : Rows (TellsNumbered text) (take i (numbered none_taken xs)) rows

-- one more index was given
abbrev pub more_taken : List ℕ → ℕ → List ℕ
more_taken taken k = slice_set taken k (slice_index_or taken k 0 + 1)

length-numbered : (taken : List ℕ) (xs : List ImportTree) → length (numbered taken xs) ≡ length xs
length-numbered taken [] = refl
length-numbered taken (x ∷ xs) = ap suc (length-numbered (more_taken taken (import_kind x)) xs)

pub imports_more : (z : Settings) (xs : List ImportTree) (rest text : List ℕ) (i j end : ℕ) (taken then : List ℕ) (rows now : List ImportRow) (read row : ImportRow) → i < length xs
    → ImportsGo z xs rest text i j taken rows
    → ((e : ImportTree) (front behind : List ℕ) → SpelledImport z e front → drop j text ≡ front ++ behind → TellsImport text read e × (drop end text ≡ behind))
    → ((e : ImportTree) → TellsImport text read e → TellsImport text row e) → row.index ≡ slice_index_or taken read.kind 0 → then ≡ more_taken taken read.kind → now ≡ slice_set rows i row
    → ImportsGo z xs rest text (i + 1) end then now
imports_more z xs rest text i j end taken then rows now read row h go found keeps index t q =
    let n = next_in (SpelledImport z) xs i go.left h go.each in
    let f = found n.value n.front (n.back ++ rest) n.spelled (next_stands (SpelledImport z) xs i go.left text rest j n go.stands) in
    let k : suc i ≡ i + 1 = omega arith in
    let kind : read.kind ≡ import_kind n.value = f.0.kind in
    let entry : ImportTree × ℕ = (n.value, slice_index_or taken (import_kind n.value) 0) in
    let others = numbered (more_taken taken (import_kind n.value)) n.more in
    let split : drop i (numbered none_taken xs) ≡ entry ∷ others = go.same ∙ ap (numbered taken) n.here in
    let tells : TellsNumbered text entry row = record { import = keeps n.value f.0; index = index ∙ ap (λ (m : ℕ). slice_index_or taken m 0) kind } in
    let told = rows_more (TellsNumbered text) (numbered none_taken xs) rows i entry others row split tells go.told in
    let then_is : then ≡ more_taken taken (import_kind n.value) = t ∙ ap (more_taken taken) kind in
    let next : drop (i + 1) (numbered none_taken xs) ≡ others = subst (λ (m : ℕ). drop m (numbered none_taken xs) ≡ others) k (drop_next (numbered none_taken xs) i entry others split) in
    record {
      left = n.back;
      each = subst (λ (ys : List ImportTree). Many (SpelledImport z) (length xs - (i + 1)) ys n.back) (sym n.behind) n.others;
      stands = f.1;
      same = next ∙ ap (λ (v : List ℕ). numbered v n.more) (sym then_is) ∙ ap (numbered then) (sym n.behind);
      told =
          subst (λ (rs : List ImportRow). Rows (TellsNumbered text) (take (i + 1) (numbered none_taken xs)) rs) (sym q)
          (subst (λ (m : ℕ). Rows (TellsNumbered text) (take m (numbered none_taken xs)) (slice_set rows i row)) k told);
    }

pub imports_stop : (z : Settings) (xs : List ImportTree) (rest text : List ℕ) (i j : ℕ) (taken : List ℕ) (rows : List ImportRow) → i < length xs → ImportsGo z xs rest text i j taken rows
    → ((e : ImportTree) (front behind : List ℕ) → SpelledImport z e front → drop j text ≡ front ++ behind → ⊥) → ⊥
imports_stop z xs rest text i j taken rows h go none =
    let n = next_in (SpelledImport z) xs i go.left h go.each in
    none n.value n.front (n.back ++ rest) n.spelled (next_stands (SpelledImport z) xs i go.left text rest j n go.stands)

pub imports_all : (z : Settings) (xs : List ImportTree) (rest text : List ℕ) (i j : ℕ) (taken : List ℕ) (rows : List ImportRow) → length xs ≤ i → ImportsGo z xs rest text i j taken rows
    → Rows (TellsNumbered text) (numbered none_taken xs) rows
imports_all z xs rest text i j taken rows h go =
    let l = length-numbered none_taken xs in
    subst (λ (ys : List (ImportTree × ℕ)). Rows (TellsNumbered text) ys rows) (take_all i (numbered none_taken xs) (omega (arith, h, l))) go.told

-- indices stay few
pub few_more : (taken : List ℕ) (k p : ℕ) → ((j : ℕ) → get_or taken j 0 ≤ p) → (j : ℕ) → get_or (more_taken taken k) j 0 ≤ p + 1
few_more [] k p f j = omega arith
few_more (x ∷ taken) zero p f zero = let h = f 0 in omega (arith, h)
few_more (x ∷ taken) zero p f (suc j) = let h = f (suc j) in omega (arith, h)
few_more (x ∷ taken) (suc k) p f zero = let h = f 0 in omega (arith, h)
few_more (x ∷ taken) (suc k) p f (suc j) = few_more taken k p (λ i. f (suc i)) j
