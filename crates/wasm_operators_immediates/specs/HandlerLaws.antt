-- Clauses and handlers are read lawfully, and exactly where bytes spell them.
use Rattle.std.proofs.Common.{ℕ, List, ◌∷◌, refl, sym, ap, subst}
use Rattle.wasm_types.specs.decoding.declared.Refusal.TheVariants.{Other}
use Rattle.wasm_types.specs.decoding.Decoder.{Grammar, ◌>>=◌, pure, refuse, byte, choice, IsLawful, Decides, Then}
use Rattle.wasm_types.specs.decoding.Laws.{lawful-byte, lawful->>=, lawful-pure, lawful-refuse, lawful-choice}
use Rattle.wasm_types.specs.decoding.ExactLaws.{Sound, Reads, ReadsTagged, Mapped, decides->>=, decides-same, decides-map, decides-table, sound-map, reads-map}
use Rattle.wasm_types.specs.decoding.Leb.{u32, IsUnsigned}
use Rattle.wasm_types.specs.decoding.LebLaws.{lawful-unsigned, decides-u32}
use Rattle.wasm_types.specs.decoding.Lists.{listed_within, IsListedWithin}
use Rattle.wasm_types.specs.decoding.ListLaws.{lawful-listed_within, decides-listed_within}
use Rattle.wasm_types.specs.settings.Settings.{Settings}
use Rattle.wasm_operators_immediates.specs.declared.handlers.Catch.{Catch}
use Rattle.wasm_operators_immediates.specs.declared.handlers.Catch.TheVariants.{One, OneRef, All, AllRef}
use Rattle.wasm_operators_immediates.specs.declared.handlers.Handle.{Handle}
use Rattle.wasm_operators_immediates.specs.declared.handlers.Handle.TheVariants.{OnLabel, OnSwitch}
use Rattle.wasm_operators_immediates.specs.declared.block.BlockType.{BlockType}
use Rattle.wasm_operators_immediates.specs.Tables.{CatchTable}
use Rattle.wasm_operators_immediates.specs.Blocks.{block_type, SpelledBlock}
use Rattle.wasm_operators_immediates.specs.BlockLaws.{lawful-block_type, decides-block_type}
use Rattle.wasm_operators_immediates.specs.Handlers.{one_index, two_indices, clauses, clause_after, clause, catch_table, try_table, handles}
use Rattle.wasm_operators_immediates.specs.Handlers.{handle_after, handle, handlers, TagAndLabel, Behind, SpelledCatch, SpelledTryTable}
use Rattle.wasm_operators_immediates.specs.Handlers.{SpelledHandle, SpelledHandlers}

-- ---- indices

lawful-u32 : IsLawful u32
lawful-u32 = lawful-unsigned 4 4

module _ {A : Type 0} where
  lawful-one_index : (f : ℕ → A) → IsLawful (one_index f)
  lawful-one_index f = lawful->>= u32 (λ n. pure (f n)) lawful-u32 (λ n. lawful-pure (f n))

  lawful-two_indices : (f : ℕ → ℕ → A) → IsLawful (two_indices f)
  lawful-two_indices f = lawful->>= u32 (λ tag. one_index (f tag)) lawful-u32 (λ tag. lawful-one_index (f tag))

  -- a label behind this tag
  abbrev label_behind : (ℕ → ℕ → A) → ℕ → Grammar A
  label_behind f tag = Mapped (f tag) (IsUnsigned 32)

  decides-two_indices : (f : ℕ → ℕ → A) → Decides (two_indices f) (Then (IsUnsigned 32) (label_behind f))
  decides-two_indices f = decides->>= u32 (λ tag. one_index (f tag)) (IsUnsigned 32) (label_behind f) decides-u32 (λ tag. decides-map u32 (f tag) (IsUnsigned 32) decides-u32)

  sound-two : (f : ℕ → ℕ → A) (g : Grammar A) → ((tag label : ℕ) (text : List ℕ) → TagAndLabel tag label text → g (f tag label) text) → Sound (two_indices f) g
  sound-two f g to s t x e =
      let p = (decides-two_indices f).sound s t x e in
      let h = p.2 in (
        p.0,
        p.1,
        subst (λ (y : A). g y p.0) (sym h.second.2)
            (to h.value h.second.0 p.0 (record { front = h.front; back = h.back; first = h.first; second = h.second.1; whole = h.whole })),
      )

  reads-two : (f : ℕ → ℕ → A) (tag label : ℕ) (text : List ℕ) → TagAndLabel tag label text → Reads (two_indices f) (f tag label) text
  reads-two f tag label text h s t p = (decides-two_indices f).complete s t (f tag label) text p
      (record { value = tag; front = h.front; back = h.back; first = h.first; second = (label, h.second, refl); whole = h.whole })

  sound-one : (f : ℕ → A) (g : Grammar A) → ((n : ℕ) (text : List ℕ) → IsUnsigned 32 n text → g (f n) text) → Sound (one_index f) g
  sound-one f g to = sound-map u32 f (IsUnsigned 32) g decides-u32 to

  reads-one : (f : ℕ → A) (n : ℕ) (text : List ℕ) → IsUnsigned 32 n text → Reads (one_index f) (f n) text
  reads-one f n text h = reads-map u32 f (IsUnsigned 32) decides-u32 n text h

behind : (b : ℕ) (g : List ℕ → Type 0) (text : List ℕ) → g text → Behind b g (b ∷ text)
behind b g text h = record { rest = text; spelled = h; whole = refl }

-- ---- clauses

lawful-clause_after : (b : ℕ) → IsLawful (clause_after b)
unfolding clause_after
lawful-clause_after b = lawful-choice clauses (refuse Other 1) b
    (lawful-two_indices One, (lawful-two_indices OneRef, (lawful-one_index All, (lawful-one_index AllRef, tt)))) (lawful-refuse Other 1)

pub lawful-clause : IsLawful clause
unfolding clause
lawful-clause = lawful->>= byte clause_after lawful-byte lawful-clause_after

clause_reads : (c : Catch) (text : List ℕ) → SpelledCatch c text → ReadsTagged (choice clauses (refuse Other 1)) c text
clause_reads (One tag label) text h = subst (ReadsTagged (choice clauses (refuse Other 1)) (One tag label)) (sym h.whole) (reads-two One tag label h.rest h.spelled)
clause_reads (OneRef tag label) text h = subst (ReadsTagged (choice clauses (refuse Other 1)) (OneRef tag label)) (sym h.whole) (reads-two OneRef tag label h.rest h.spelled)
clause_reads (All label) text h = subst (ReadsTagged (choice clauses (refuse Other 1)) (All label)) (sym h.whole) (reads-one All label h.rest h.spelled)
clause_reads (AllRef label) text h = subst (ReadsTagged (choice clauses (refuse Other 1)) (AllRef label)) (sym h.whole) (reads-one AllRef label h.rest h.spelled)

pub decides-clause : Decides clause SpelledCatch
unfolding clause clause_after
decides-clause = decides-table Other SpelledCatch clauses (
  sound-two One _ (λ tag label text h. behind 0x00 (TagAndLabel tag label) text h),
  (
    sound-two OneRef _ (λ tag label text h. behind 0x01 (TagAndLabel tag label) text h),
    (
      sound-one All _ (λ label text h. behind 0x02 (IsUnsigned 32 label) text h),
      (sound-one AllRef _ (λ label text h. behind 0x03 (IsUnsigned 32 label) text h), tt),
    ),
  ),
)
    clause_reads

-- ---- the type and the clauses

module _ (settings : Settings) where
  pub lawful-try_table : IsLawful (try_table settings)
  unfolding try_table
  lawful-try_table = lawful->>= block_type _ lawful-block_type
      (λ ty. lawful->>= (listed_within settings.limits.catches clause) _ (lawful-listed_within settings.limits.catches clause lawful-clause)
      (λ catches. lawful-pure (catch_table ty catches)))

  abbrev IsClauses : Grammar (List Catch)
  IsClauses = IsListedWithin settings.limits.catches SpelledCatch

  -- clauses behind this type
  abbrev clauses_behind : BlockType → Grammar CatchTable
  clauses_behind ty = Mapped (catch_table ty) IsClauses

  table_to : (t : CatchTable) (text : List ℕ) → Then SpelledBlock clauses_behind t text → SpelledTryTable settings t text
  table_to t text h = record {
    front = h.front;
    back = h.back;
    ty = subst (λ (ty : BlockType). SpelledBlock ty h.front) (sym (ap (λ (k : CatchTable). k.ty) h.second.2)) h.first;
    catches = subst (λ (xs : List Catch). IsClauses xs h.back) (sym (ap (λ (k : CatchTable). k.catches) h.second.2)) h.second.1;
    whole = h.whole;
  }

  table_from : (t : CatchTable) (text : List ℕ) → SpelledTryTable settings t text → Then SpelledBlock clauses_behind t text
  table_from t text h = record { value = t.ty; front = h.front; back = h.back; first = h.ty; second = (t.catches, h.catches, refl); whole = h.whole }

  pub decides-try_table : Decides (try_table settings) (SpelledTryTable settings)
  unfolding try_table
  decides-try_table = decides-same (try_table settings) (Then SpelledBlock clauses_behind) (SpelledTryTable settings)
      (decides->>= block_type (λ ty. listed_within settings.limits.catches clause >>= λ catches. pure (catch_table ty catches)) SpelledBlock clauses_behind decides-block_type
      (λ ty. decides-map (listed_within settings.limits.catches clause) (catch_table ty) IsClauses
      (decides-listed_within settings.limits.catches clause SpelledCatch decides-clause)))
      table_to table_from

-- ---- handlers

lawful-handle_after : (b : ℕ) → IsLawful (handle_after b)
unfolding handle_after
lawful-handle_after b = lawful-choice handles (refuse Other 1) b (lawful-two_indices OnLabel, (lawful-one_index OnSwitch, tt)) (lawful-refuse Other 1)

pub lawful-handle : IsLawful handle
unfolding handle
lawful-handle = lawful->>= byte handle_after lawful-byte lawful-handle_after

handle_reads : (x : Handle) (text : List ℕ) → SpelledHandle x text → ReadsTagged (choice handles (refuse Other 1)) x text
handle_reads (OnLabel tag label) text h = subst (ReadsTagged (choice handles (refuse Other 1)) (OnLabel tag label)) (sym h.whole) (reads-two OnLabel tag label h.rest h.spelled)
handle_reads (OnSwitch tag) text h = subst (ReadsTagged (choice handles (refuse Other 1)) (OnSwitch tag)) (sym h.whole) (reads-one OnSwitch tag h.rest h.spelled)

pub decides-handle : Decides handle SpelledHandle
unfolding handle handle_after
decides-handle = decides-table Other SpelledHandle handles (
  sound-two OnLabel _ (λ tag label text h. behind 0x00 (TagAndLabel tag label) text h),
  (sound-one OnSwitch _ (λ tag text h. behind 0x01 (IsUnsigned 32 tag) text h), tt),
)
    handle_reads

module _ (settings : Settings) where
  pub lawful-handlers : IsLawful (handlers settings)
  unfolding handlers
  lawful-handlers = lawful-listed_within settings.limits.catches handle lawful-handle

  pub decides-handlers : Decides (handlers settings) (SpelledHandlers settings)
  unfolding handlers
  decides-handlers = decides-listed_within settings.limits.catches handle SpelledHandle decides-handle
