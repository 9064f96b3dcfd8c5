-- What a reader of groups reads one by one is what the decoder of all of them answers.
use Rattle.std.proofs.Common.{◌≡◌, ℕ, zero, suc, ◌+◌, ◌-◌, ◌<◌, ◌≤◌, List, [], ◌∷◌, ◌++◌, refl, sym, ap, ◌∙◌, subst, arith}
use Rattle.wasm_types.specs.decoding.Decoder.{State, Outcome, Done, Short, Fault, continue_with, ◌>>=◌, pure}
use Rattle.wasm_types.specs.decoding.ExactLaws.{done_then, value_is, state_is}
use Rattle.wasm_types.specs.decoding.Leb.{u32}
use Rattle.wasm_types.specs.settings.Settings.{Settings}
use Rattle.wasm_types.specs.decoding.declared.error.ErrorKind.{ErrorKind}
use Rattle.wasm_types.specs.decoding.declared.error.ErrorKind.TheVariants.{EndOfData, MissingFeature, OutOfMemory, Failed, Other}
use Rattle.wasm_types.specs.decoding.ErrorValue.{ErrorValue}
use Rattle.wasm_types.specs.reader.Reading.{Fails, FailsAt}
use Rattle.wasm_types.specs.reader.ReadingLaws.{fails_then}
use Rattle.wasm_operators_encoding.specs.Locals.{LocalGroup, most_locals, group_within, groups_within, locals}
use Rattle.wasm_operators_encoding.specs.LocalsLaws.{decides-group_within}
use Rattle.wasm_operators_bodies.specs.Groups.{LocalsLeft, behind_count, counted_groups, ReadsGroup, RefusesGroupOf, ReadsGroups}

-- a group that was read has room
pub has_room : (room : ℕ) (s t : State) (g : LocalGroup) → group_within room s ≡ Done g t → g.count ≤ room
has_room room s t g e = ((decides-group_within room).sound s t g e).2.1

-- what is not zero
pub some : (n : ℕ) → (n ≡ 0 → ⊥) → 0 < n
some zero e = absurd (e refl)
some (suc n) e = omega arith

-- a group that was read and taken off
pub group_taken : (s : LocalsLeft) (g : LocalGroup) (b : State) → (s.groups ≡ 0 → ⊥) → group_within s.room s.bytes ≡ Done g b
    → ReadsGroup s g (record { bytes = b; count = s.count; groups = s.groups - 1; room = s.room - g.count })
group_taken s g b more read = record {
  read = read;
  groups = omega (arith, some s.groups more);
  room = omega (arith, has_room s.room s.bytes b g read);
  count = refl;
}

-- with a group left it is refused for its bytes
pub refused_bytes : (n : ℕ) (s : LocalsLeft) (e : ErrorValue) → (n ≡ 0 → ⊥) → RefusesGroupOf n s e → Fails e (group_within s.room s.bytes)
refused_bytes zero s e more h = absurd (more refl)
refused_bytes (suc n) s e more h = h

-- one more at the end
pub groups_more : (gs : List LocalGroup) (s t u : LocalsLeft) (g : LocalGroup) → ReadsGroups s gs t → ReadsGroup t g u → ReadsGroups s (gs ++ g ∷ []) u
groups_more [] s t u g e h = (u, subst (λ (v : LocalsLeft). ReadsGroup v g u) e h, refl)
groups_more (f ∷ gs) s t u g (m, r, more) h = (m, r, groups_more gs m t u g more h)

-- what the decoder answers for all groups that are left
abbrev pub all_left : LocalsLeft → Outcome (List LocalGroup)
all_left s = groups_within s.groups s.room s.bytes

-- n groups and one more
one_more : (n room : ℕ) (b : State) → groups_within (n + 1) room b ≡ continue_with (group_within room b) (λ g u. continue_with (groups_within n (room - g.count) u) (λ gs. pure (g ∷ gs)))
unfolding groups_within
one_more n room b = let e : n + 1 ≡ suc n = omega arith in rw e refl

-- behind a group that was read
all_behind : (s m : LocalsLeft) (g : LocalGroup) → ReadsGroup s g m → all_left s ≡ continue_with (all_left m) (λ gs. pure (g ∷ gs))
all_behind s m g h =
    let room : s.room - g.count ≡ m.room = omega (arith, h.room) in
    ap (λ (n : ℕ). groups_within n s.room s.bytes) h.groups ∙ one_more m.groups s.room s.bytes
    ∙ ap (λ (o : Outcome LocalGroup). continue_with o (λ g u. continue_with (groups_within m.groups (s.room - g.count) u) (λ gs. pure (g ∷ gs)))) h.read
    ∙ ap (λ (r : ℕ). continue_with (groups_within m.groups r m.bytes) (λ gs. pure (g ∷ gs))) room

none_left : (s : LocalsLeft) → s.groups ≡ 0 → all_left s ≡ Done [] s.bytes
unfolding groups_within
none_left s e = rw e refl

-- once no group is left, what was read is all that the decoder answers
pub groups_done : (gs : List LocalGroup) (s t : LocalsLeft) → ReadsGroups s gs t → t.groups ≡ 0 → all_left s ≡ Done gs t.bytes
groups_done [] s t e none = ap all_left (sym e) ∙ none_left t none
groups_done (g ∷ gs) s t (m, r, more) none = all_behind s m g r ∙ ap (λ (o : Outcome (List LocalGroup)). continue_with o (λ gs. pure (g ∷ gs))) (groups_done gs m t more none)

module _ (e : ErrorValue) where
  fails_here : (n : ℕ) (t : LocalsLeft) → t.groups ≡ n → 0 < n → Fails e (group_within t.room t.bytes) → Fails e (all_left t)
  fails_here zero t same some fails = absurd (omega (arith, some))
  fails_here (suc n) t same some fails =
      let next : t.groups ≡ n + 1 = omega (arith, same) in
      let whole : all_left t ≡ continue_with (group_within t.room t.bytes) (λ g u. continue_with (groups_within n (t.room - g.count) u) (λ gs. pure (g ∷ gs))) =
      ap (λ (k : ℕ). groups_within k t.room t.bytes) next ∙ one_more n t.room t.bytes in
      subst (λ (o : Outcome (List LocalGroup)). Fails e o) (sym whole) (fails_then (group_within t.room t.bytes) (λ g u. continue_with (groups_within n (t.room - g.count) u) (λ gs. pure (g ∷ gs))) e.kind e.offset fails)

  -- where one is refused, that is what the decoder answers
  pub groups_fail : (gs : List LocalGroup) (s t : LocalsLeft) → ReadsGroups s gs t → 0 < t.groups → Fails e (group_within t.room t.bytes) → Fails e (all_left s)
  groups_fail [] s t same some fails = subst (λ (u : LocalsLeft). Fails e (all_left u)) same (fails_here t.groups t refl some fails)
  groups_fail (g ∷ gs) s t (m, r, more) some fails =
      subst (λ (o : Outcome (List LocalGroup)). Fails e o) (sym (all_behind s m g r)) (fails_then (all_left m) (λ gs. pure (g ∷ gs)) e.kind e.offset (groups_fail gs m t more some fails))

-- ---- from the decoder to a run

-- from here so many groups are read, and the reader stands there
abbrev AllRead : LocalsLeft → List LocalGroup → State → Type 0
AllRead s gs b = (t : LocalsLeft) × ReadsGroups s gs t × (t.groups ≡ 0) × (t.bytes ≡ b)

pub groups_read : (n room c : ℕ) (gs : List LocalGroup) (b d : State) → groups_within n room b ≡ Done gs d → AllRead (record { bytes = b; count = c; groups = n; room = room }) gs d
unfolding groups_within
groups_read zero room c gs b d e =
    let here : LocalsLeft = record { bytes = b; count = c; groups = 0; room = room } in
    subst (λ (z : List LocalGroup). AllRead here z d) (value_is [] gs b d e) (here, refl, refl, state_is [] gs b d e)
groups_read (suc n) room c gs b d e =
    let one = done_then (group_within room b) (λ g. groups_within n (room - g.count) >>= λ gs. pure (g ∷ gs)) gs d e in
    let g = one.0 in
    let rest = done_then (groups_within n (room - g.count) one.1) (λ gs. pure (g ∷ gs)) gs d one.3 in
    let small = (decides-group_within room).sound b one.1 g one.2 in
    let m : LocalsLeft = record { bytes = one.1; count = c; groups = n; room = room - g.count } in
    let step : ReadsGroup (record { bytes = b; count = c; groups = suc n; room = room }) g m = record { read = one.2; groups = omega arith; room = omega (arith, small.2.1); count = refl } in
    let more = groups_read n (room - g.count) c rest.0 one.1 rest.1 rest.2 in
    subst (λ (z : List LocalGroup). AllRead (record { bytes = b; count = c; groups = suc n; room = room }) z d) (value_is (g ∷ rest.0) gs rest.1 d rest.3)
    (more.0, (m, step, more.1), more.2, more.3 ∙ state_is (g ∷ rest.0) gs rest.1 d rest.3)

-- ---- behind the count

module _ (settings : Settings) (s u : State) (l : LocalsLeft) (begun : counted_groups settings s ≡ Done l u) where
  -- where the groups begin
  begins : locals settings s ≡ all_left l
  unfolding locals counted_groups
  begins =
      let one = done_then (u32 s) (λ n t. Done (behind_count settings n t) t) l u begun in
      let where_ : behind_count settings one.0 one.1 ≡ l = value_is (behind_count settings one.0 one.1) l one.1 u one.3 in
      ap (λ (o : Outcome ℕ). continue_with o (λ n. groups_within n (most_locals settings))) one.2 ∙ ap all_left where_

  -- what is read to the last group is what the decoder answers
  pub locals_done : (gs : List LocalGroup) (t : LocalsLeft) → ReadsGroups l gs t → t.groups ≡ 0 → locals settings s ≡ Done gs t.bytes
  locals_done gs t run none = begins ∙ groups_done gs l t run none

  -- and so is a refusal
  pub locals_fail : (e : ErrorValue) (gs : List LocalGroup) (t : LocalsLeft) → ReadsGroups l gs t → 0 < t.groups → Fails e (group_within t.room t.bytes) → Fails e (locals settings s)
  locals_fail e gs t run some fails = subst (λ (o : Outcome (List LocalGroup)). Fails e o) (sym begins) (groups_fail e gs l t run some fails)

-- a count that was refused
uncounted : (settings : Settings) (o : Outcome ℕ) (k : ErrorKind) (p : ℕ) → FailsAt k p (continue_with o (λ n t. Done (behind_count settings n t) t)) → FailsAt k p o
uncounted settings (Done n t) (EndOfData h) p e = absurd cc
uncounted settings (Done n t) (MissingFeature f) p e = absurd cc
uncounted settings (Done n t) OutOfMemory p e = tt
uncounted settings (Done n t) Failed p e = e
uncounted settings (Done n t) Other p e = absurd cc
uncounted settings (Short q h) (EndOfData g) p e = cc
uncounted settings (Short q h) (MissingFeature f) p e = absurd cc
uncounted settings (Short q h) OutOfMemory p e = tt
uncounted settings (Short q h) Failed p e = e
uncounted settings (Short q h) Other p e = absurd cc
uncounted settings (Fault k q) (EndOfData h) p e = absurd cc
uncounted settings (Fault k q) (MissingFeature f) p e = cc
uncounted settings (Fault k q) OutOfMemory p e = tt
uncounted settings (Fault k q) Failed p e = e
uncounted settings (Fault k q) Other p e = cc

-- where no count is read, no locals are
pub count_fails : (settings : Settings) (s : State) (e : ErrorValue) → Fails e (counted_groups settings s) → Fails e (locals settings s)
unfolding locals counted_groups
count_fails settings s e fails = fails_then (u32 s) (λ n. groups_within n (most_locals settings)) e.kind e.offset (uncounted settings (u32 s) e.kind e.offset fails)

-- what the decoder answers is read group by group
pub locals_read : (settings : Settings) (s b : State) (gs : List LocalGroup) → locals settings s ≡ Done gs b
    → (l : LocalsLeft) × (u : State) × (counted_groups settings s ≡ Done l u) × AllRead l gs b
unfolding locals counted_groups
locals_read settings s b gs e =
    let one = done_then (u32 s) (λ n. groups_within n (most_locals settings)) gs b e in
    (behind_count settings one.0 one.1, one.1, ap (λ (o : Outcome ℕ). continue_with o (λ n t. Done (behind_count settings n t) t)) one.2, groups_read one.0 (most_locals settings) one.0 gs one.1 b one.3)
