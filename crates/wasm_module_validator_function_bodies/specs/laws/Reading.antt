-- Groups of locals that are read one by one, and why bytes that are refused spell none that a function may have.
use Rattle.std.specs.Prelude.{IfErr, OnOk}
use Rattle.std.proofs.Common.{◌≡◌, ◌∙◌, Some, Result, Ok, Err, inl, inr, ℕ, zero, suc, ◌+◌, ◌<◌, ◌≤◌, List, [], ◌∷◌, ◌++◌, length, Bool, true, false, refl, sym, ap, subst, arith}
use Rattle.wasm_types.specs.decoding.Decoder.{State as Bytes, Outcome, Done, Short, Fault, ◌>>=◌, pure, continue_with, repeated, Takes}
use Rattle.wasm_types.specs.decoding.ExactLaws.{value_is, state_is, done_then}
use Rattle.wasm_types.specs.decoding.Leb.{u32, listed}
use Rattle.wasm_types.specs.decoding.LebLaws.{decides-listed}
use Rattle.wasm_types.specs.settings.Settings.{Settings}
use Rattle.wasm_types.specs.settings.declared.Limits.{Limits}
use Rattle.wasm_types.specs.decoding.Denials.{Denies}
use Rattle.wasm_types.specs.decoding.DenialLaws.{denies, denies_from}
use Rattle.wasm_types.specs.decoding.ErrorValue.{ErrorValue}
use Rattle.wasm_types.specs.decoding.declared.error.ErrorKind.{ErrorKind}
use Rattle.wasm_types.specs.decoding.declared.error.ErrorKind.TheVariants as kinds
use Rattle.wasm_types.specs.reader.Reading.{FailsAt}
use Rattle.wasm_types.specs.values.declared.value.ValType.{ValType}
use Rattle.wasm_operators_encoding.specs.Locals.{LocalGroup, total, SpelledGroup, group, most_locals}
use Rattle.wasm_operators_encoding.specs.LocalsLaws.{decides-group, decides-locals}
use Rattle.wasm_operator_validator_rules.specs.Context.{Module}
use Rattle.wasm_operator_validator_arity.specs.resources.Meaning.{Meaning, type_in}
use Rattle.wasm_operator_validator_state.specs.State.{State}
use Rattle.wasm_operator_validator_stacks.specs.Defining.{DefinesLocals, MayWrite, HasRoomFor, RefusesCount, RefusesLocals}
use Rattle.wasm_module_validator_section_order.specs.rules.Valid.{Each, IsValidValueType}
use Rattle.wasm_module_validator_function_bodies.specs.Locals.{judged_by, relocated, SpellsLocals, ReadsEach, TakesLocals, TakesSome, RefusesGroup, StopsBehind, StopsLocals, ReadsLocals, DefinesMore}
use Rattle.wasm_module_validator_function_bodies.specs.laws.Locals.{defined_bits, defined_types, defined_count, defined_state, defined_more, total_append, each_at}

-- ---- one by one, and all at once

pub reads_all : (gs : List LocalGroup) (s t : Bytes) → ReadsEach s gs t → repeated (length gs) group s ≡ Done gs t
unfolding repeated
reads_all [] s t e = ap (λ (b : Bytes). Done [] b) (sym e)
reads_all (g ∷ gs) s t (u, r, more) =
    ap (λ (o : Outcome LocalGroup). continue_with o (λ x. repeated (length gs) group >>= λ xs. pure (x ∷ xs))) r
    ∙ ap (λ (o : Outcome (List LocalGroup)). continue_with o (λ xs. pure (g ∷ xs))) (reads_all gs u t more)

-- what is read of n groups
abbrev AreRead : ℕ → Bytes → List LocalGroup → Bytes → Type 0
AreRead n s gs t = (n ≡ length gs) × ReadsEach s gs t

pub reads_each : (n : ℕ) (s t : Bytes) (gs : List LocalGroup) → repeated n group s ≡ Done gs t → AreRead n s gs t
unfolding repeated
reads_each zero s t gs e = subst (λ (xs : List LocalGroup). AreRead zero s xs t) (value_is [] gs s t e) (refl, sym (state_is [] gs s t e))
reads_each (suc n) s t gs e =
    let one = done_then (group s) (λ x. repeated n group >>= λ xs. pure (x ∷ xs)) gs t e in
    let rest = done_then (repeated n group one.1) (λ xs. pure (one.0 ∷ xs)) gs t one.3 in
    let more = reads_each n one.1 rest.1 rest.0 rest.2 in
    subst (λ (xs : List LocalGroup). AreRead (suc n) s xs t) (value_is (one.0 ∷ rest.0) gs rest.1 t rest.3)
    (ap suc more.0, (one.1, one.2, subst (λ (b : Bytes). ReadsEach one.1 rest.0 b) (state_is (one.0 ∷ rest.0) gs rest.1 t rest.3) more.1))

-- one more at the end
pub reads_more : (gs : List LocalGroup) (s t u : Bytes) (l : LocalGroup) → ReadsEach s gs t → group t ≡ Done l u → ReadsEach s (gs ++ l ∷ []) u
reads_more [] s t u l e r = (u, subst (λ (b : Bytes). group b ≡ Done l u) e r, refl)
reads_more (g ∷ gs) s t u l (v, first, more) r = (v, first, reads_more gs v t u l more r)

-- the next of groups that can be read, behind some that were
abbrev Next : List LocalGroup → Bytes → List LocalGroup → Type 0
Next gs u hs = (l : LocalGroup) × (v : Bytes) × (more : List LocalGroup) × (hs ≡ gs ++ l ∷ more) × (group u ≡ Done l v)

next : (gs hs : List LocalGroup) (s u t : Bytes) → ReadsEach s gs u → ReadsEach s hs t → length gs < length hs → Next gs u hs
next [] [] s u t a b few = absurd (omega (arith, few))
next [] (h ∷ hs) s u t a (v, r, more) few = (h, v, hs, refl, subst (λ (x : Bytes). group x ≡ Done h v) (sym a) r)
next (g ∷ gs) [] s u t a b few = absurd (omega (arith, few))
next (g ∷ gs) (h ∷ hs) s u t (v, r, more) (w, q, rest) few =
    let both : Done g v ≡ Done h w = sym r ∙ q in
    let same : ReadsEach v hs t = subst (λ (x : Bytes). ReadsEach x hs t) (sym (state_is g h v w both)) rest in
    let fewer : length gs < length hs = omega (arith, few) in
    let n = next gs hs v u t more same fewer in
    (n.0, n.1, n.2, subst (λ (x : LocalGroup). x ∷ hs ≡ g ∷ (gs ++ n.0 ∷ n.2)) (value_is g h v w both) (ap (λ (xs : List LocalGroup). g ∷ xs) n.3), n.4)

same_groups : (gs hs : List LocalGroup) (s u t : Bytes) → ReadsEach s gs u → ReadsEach s hs t → length gs ≡ length hs → gs ≡ hs
same_groups gs hs s u t a b e =
    value_is gs hs u t (sym (reads_all gs s u a) ∙ ap (λ (n : ℕ). repeated n group s) e ∙ reads_all hs s t b)

-- ---- what is read where the bytes spell locals

pub record Counted (z : Settings) (g : Module) (before : ℕ) (s : Bytes) : Type 0 where
  pub groups : List LocalGroup
  pub behind : Bytes
  pub end : Bytes
  pub counted : u32 s ≡ Done (length groups) behind
  pub read : ReadsEach behind groups end
  pub types : Each (λ (l : LocalGroup). IsValidValueType z g l.type) groups
  pub within : before + total groups ≤ z.limits.locals

pub spelled_counted : (z : Settings) (g : Module) (before : ℕ) (s : Bytes) → SpellsLocals z g before s.rest → Counted z g before s
unfolding listed
spelled_counted z g before s h =
    let end : Bytes = record { rest = h.back; place = s.place + length h.front; settings = s.settings; start = s.start } in
    let taken : Takes s h.front end = record { parts = h.whole; place = refl; settings = refl; start = refl } in
    let whole = (decides-listed SpelledGroup group decides-group).complete s end h.groups h.front taken h.spelled.listed in
    let one = done_then (u32 s) (λ n. repeated n group) h.groups end whole in
    let read = reads_each one.0 one.1 end h.groups one.3 in
    record {
      groups = h.groups;
      behind = one.1;
      end = end;
      counted = subst (λ (n : ℕ). u32 s ≡ Done n one.1) read.0 one.2;
      read = read.1;
      types = h.types;
      within = h.within;
    }

-- ---- refusals

-- what fails gives no value
pub fails_denies : {A : Type 0} (k : ErrorKind) (p : ℕ) (o : Outcome A) → FailsAt k p o → Denies k ((x : A) × (t : Bytes) × (o ≡ Done x t))
fails_denies (kinds.EndOfData h) p (Done x t) f = absurd cc
fails_denies (kinds.EndOfData h) p (Short q i) f = λ (x, t, e). absurd cc
fails_denies (kinds.EndOfData h) p (Fault k q) f = λ (x, t, e). absurd cc
fails_denies (kinds.MissingFeature g) p (Done x t) f = absurd cc
fails_denies (kinds.MissingFeature g) p (Short q i) f = λ (x, t, e). absurd cc
fails_denies (kinds.MissingFeature g) p (Fault k q) f = λ (x, t, e). absurd cc
fails_denies kinds.OutOfMemory p o f = tt
fails_denies kinds.Failed p o f = absurd f
fails_denies kinds.Other p (Done x t) f = absurd cc
fails_denies kinds.Other p (Short q i) f = λ (x, t, e). absurd cc
fails_denies kinds.Other p (Fault k q) f = λ (x, t, e). absurd cc

not_both : (b : Bool) → b ≡ false → b ≡ true → ⊥
not_both b f t = let x : false ≡ true = sym f ∙ t in cc

-- too many with this group
too_many : (k : ErrorKind) (most : ℕ) (ρ : State) (n : ℕ) (P : Type 0) → (P → length ρ.given.locals + n ≤ most) → RefusesCount most ρ n k → Denies k P
too_many (kinds.EndOfData h) most ρ n P within r = absurd r
too_many (kinds.MissingFeature f) most ρ n P within r = absurd r
too_many kinds.OutOfMemory most ρ n P within r = tt
too_many kinds.Failed most ρ n P within r = absurd r
too_many kinds.Other most ρ n P within r = λ p. let h = within p in omega (arith, h, r)

module _ (m : Meaning) (z : Settings) (s : Bytes) (σ : State) (e : ErrorValue) (features : z.features ≡ σ.given.bits) where
  -- what the bytes spell, by the features of the body
  abbrev Spelled : Type 0
  Spelled = SpellsLocals z m.«module» (length σ.given.locals) s.rest

  -- where so many were taken, and fewer than were counted, the next can be read
  abbrev Following : (count n : ℕ) (u : Bytes) (ρ : State) → TakesSome m z s σ count n u ρ → Type 0
  Following count n u ρ some =
      (c : Counted z m.«module» (length σ.given.locals) s) × Next some.groups u c.groups

  following : (count n : ℕ) (u : Bytes) (ρ : State) (some : TakesSome m z s σ count n u ρ) → n < count → Spelled → Following count n u ρ some
  following count n u ρ some fewer h =
      let c = spelled_counted z m.«module» (length σ.given.locals) s h in
      let both : Done count some.behind ≡ Done (length c.groups) c.behind = sym some.counted ∙ c.counted in
      let many : length some.groups < length c.groups = subst (λ (k : ℕ). length some.groups < k) (value_is count (length c.groups) some.behind c.behind both) (subst (λ (k : ℕ). k < count) (sym some.many) fewer) in
      let read : ReadsEach some.behind c.groups c.end = subst (λ (b : Bytes). ReadsEach b c.groups c.end) (sym (state_is count (length c.groups) some.behind c.behind both)) c.read in
      (c, next some.groups c.groups some.behind u c.end some.read read many)

  module _ (count n : ℕ) (u : Bytes) (ρ : State) (some : TakesSome m z s σ count n u ρ) (fewer : n < count) where
    -- a group that was read is the next of those that are spelled
    the_next : (l : LocalGroup) (v : Bytes) → group u ≡ Done l v → Spelled → IsValidValueType z m.«module» l.type × (length ρ.given.locals + l.count ≤ z.limits.locals)
    the_next l v r h =
        let f = following count n u ρ some fewer h in
        let c = f.0 in
        let same : f.1.0 ≡ l = value_is f.1.0 l f.1.1 v (sym f.1.4 ∙ r) in
        let whole : c.groups ≡ some.groups ++ l ∷ f.1.2 = subst (λ (x : LocalGroup). c.groups ≡ some.groups ++ x ∷ f.1.2) same f.1.3 in
        let types = subst (λ (gs : List LocalGroup). Each (λ (x : LocalGroup). IsValidValueType z m.«module» x.type) gs) whole c.types in
        let within = subst (λ (gs : List LocalGroup). length σ.given.locals + total gs ≤ z.limits.locals) whole c.within in
        let sum = total_append some.groups l f.1.2 in
        let known = defined_count m z.limits.locals some.groups σ ρ some.defined in
        (each_at (λ (x : LocalGroup). IsValidValueType z m.«module» x.type) some.groups l f.1.2 types, omega (arith, within, sum, known))

    refused_group : RefusesGroup m z.limits.locals u ρ e → Denies e.kind Spelled
    refused_group (inl fails) =
        denies_from e.kind ((l : LocalGroup) × (v : Bytes) × (group u ≡ Done l v)) Spelled
        (λ h. let f = following count n u ρ some fewer h in (f.1.0, f.1.1, f.1.4)) (fails_denies e.kind e.offset (group u) fails)
    refused_group (inr (l, v, r, inl unwritten, at)) =
        denies_from e.kind (MayWrite m ρ l.type) Spelled
        (λ h. subst (λ (b : ℕ). IsValidValueType (record { features = b; limits = z.limits }) m.«module» l.type) (features ∙ sym (defined_bits m z.limits.locals some.groups σ ρ some.defined)) (the_next l v r h).0) unwritten
    refused_group (inr (l, v, r, inr (written, count_refused), at)) = too_many e.kind z.limits.locals ρ l.count Spelled (λ h. (the_next l v r h).1) count_refused

  stops_behind : StopsBehind m z s σ e → Denies e.kind Spelled
  stops_behind b = denies e.kind Spelled (λ h.
      let c = spelled_counted z m.«module» (length σ.given.locals) s h in
      let both : Done b.count b.all.behind ≡ Done (length c.groups) c.behind = sym b.all.counted ∙ c.counted in
      let read : ReadsEach b.all.behind c.groups c.end = subst (λ (x : Bytes). ReadsEach x c.groups c.end) (sym (state_is b.count (length c.groups) b.all.behind c.behind both)) c.read in
      let same : b.all.groups ≡ c.groups = same_groups b.all.groups c.groups b.all.behind b.end c.end b.all.read read (b.all.many ∙ value_is b.count (length c.groups) b.all.behind c.behind both) in
      let known = defined_count m z.limits.locals b.all.groups σ b.known b.all.defined in
      let within : length σ.given.locals + total b.all.groups ≤ z.limits.locals = subst (λ (gs : List LocalGroup). length σ.given.locals + total gs ≤ z.limits.locals) (sym same) c.within in
      let more = b.more in
      let over : z.limits.locals < length σ.given.locals + total b.all.groups = subst (λ (n : ℕ). z.limits.locals < n) known more in
      omega (arith, within, over))

  -- bytes that are refused spell no locals that a function may have
  pub stopped_locals : σ.failed ≡ false → StopsLocals m z s σ e → Denies e.kind Spelled
  stopped_locals going (inl (failed, kind, at)) = absurd (not_both σ.failed going failed)
  stopped_locals going (inr (inl fails)) =
      denies_from e.kind ((n : ℕ) × (t : Bytes) × (u32 s ≡ Done n t)) Spelled
      (λ h. let c = spelled_counted z m.«module» (length σ.given.locals) s h in (length c.groups, c.behind, c.counted)) (fails_denies e.kind e.offset (u32 s) fails)
  stopped_locals going (inr (inr (inl g))) = refused_group g.count g.taken g.at g.known g.some g.fewer g.refused
  stopped_locals going (inr (inr (inr b))) = stops_behind b

-- ---- what was taken

module _ (m : Meaning) (z : Settings) (s : Bytes) (σ : State) where
  -- nothing yet
  pub takes_none : (count : ℕ) (u : Bytes) → u32 s ≡ Done count u → TakesSome m z s σ count 0 u σ
  takes_none count u r = record { behind = u; counted = r; groups = []; read = refl; defined = refl; many = refl }

  -- one more
  pub takes_more : (count n : ℕ) (u v : Bytes) (ρ τ : State) (l : LocalGroup) → TakesSome m z s σ count n u ρ → group u ≡ Done l v → DefinesLocals m z.limits.locals ρ l.count l.type τ
      → TakesSome m z s σ count (n + 1) v τ
  takes_more count n u v ρ τ l some r d =
      let longer = more_by_one some.groups l in
      record {
        behind = some.behind;
        counted = some.counted;
        groups = some.groups ++ l ∷ [];
        read = reads_more some.groups some.behind u v l some.read r;
        defined = defined_more m z.limits.locals some.groups σ ρ τ l some.defined d;
        many = longer ∙ ap (λ (k : ℕ). k + 1) some.many;
      }
    where
      more_by_one : (gs : List LocalGroup) (x : LocalGroup) → length (gs ++ x ∷ []) ≡ length gs + 1
      more_by_one [] x = omega arith
      more_by_one (g ∷ gs) x = let e = more_by_one gs x in omega (arith, e)

  -- all that were counted
  pub takes_all : (count : ℕ) (t : Bytes) (τ : State) → TakesSome m z s σ count count t τ → length τ.given.locals ≤ z.limits.locals → TakesLocals m z s σ t τ
  unfolding listed
  takes_all count t τ all within =
      let read : repeated count group all.behind ≡ Done all.groups t = subst (λ (n : ℕ). repeated n group all.behind ≡ Done all.groups t) all.many (reads_all all.groups all.behind t all.read) in
      let whole : listed group s ≡ Done all.groups t = ap (λ (o : Outcome ℕ). continue_with o (λ n. repeated n group)) all.counted ∙ read in
      let found = (decides-listed SpelledGroup group decides-group).sound s t all.groups whole in
      let known = defined_count m z.limits.locals all.groups σ τ all.defined in
      let small : total all.groups ≤ most_locals z = omega (arith, known, within) in
      record {
        groups = all.groups;
        read = (decides-locals z).complete s t all.groups found.0 found.1 (record { listed = found.2; within = small });
        defined = all.defined;
        within = within;
      }

  -- only the locals are others then
  pub some_others : (count n : ℕ) (u : Bytes) (ρ : State) → TakesSome m z s σ count n u ρ → ρ ≡ relocated σ ρ.given.locals
  some_others count n u ρ some = defined_state m z.limits.locals some.groups σ ρ some.defined

  -- the next is refused
  pub stops_next : (count n : ℕ) (u : Bytes) (ρ : State) (e : ErrorValue) → TakesSome m z s σ count n u ρ → n < count → RefusesGroup m z.limits.locals u ρ e → StopsLocals m z s σ e
  stops_next count n u ρ e some fewer refused = inr (inr (inl (record { count = count; taken = n; at = u; known = ρ; some = some; fewer = fewer; refused = refused })))

  -- there are too many
  pub stops_over : (count : ℕ) (t : Bytes) (τ : State) (e : ErrorValue) → TakesSome m z s σ count count t τ → z.limits.locals < length τ.given.locals → e.kind ≡ kinds.Other → e.offset ≡ t.place
      → StopsLocals m z s σ e
  stops_over count t τ e all more kind at = inr (inr (inr (record { count = count; end = t; known = τ; all = all; more = more; kind = kind; offset = at })))

  -- bytes of which locals were taken spell them
  pub taken_spelled : z.features ≡ σ.given.bits → (t : Bytes) (τ : State) → TakesLocals m z s σ t τ → SpellsLocals z m.«module» (length σ.given.locals) s.rest
  taken_spelled features t τ h =
      let found = (decides-locals z).sound s t h.groups h.read in
      let known = defined_count m z.limits.locals h.groups σ τ h.defined in
      record {
        groups = h.groups;
        front = found.0;
        back = t.rest;
        spelled = record { listed = found.2.listed; within = found.2.within };
        whole = found.1.parts;
        types = defined_types m z.limits.locals z.features h.groups σ τ features h.defined;
        within = subst (λ (n : ℕ). n ≤ z.limits.locals) known h.within;
      }

-- ---- the calls

module _ (m : Meaning) (l : Limits) (s : Bytes) (σ : State) where
  pub read_before : (e : ErrorValue) → σ.failed ≡ true → e.kind ≡ kinds.Failed → e.offset ≡ s.place → ReadsLocals m l s σ (Err e) s σ
  read_before e failed kind at = record {
    exact = λ going. absurd (not_both σ.failed going failed);
    stopped = λ f. ap Some kind;
    taken = tt;
    stops = inl (failed, kind, at);
    stays = refl;
    failed = failed;
    others = refl;
  }

  module _ (going : σ.failed ≡ false) where
    pub read_refused : (e : ErrorValue) (ν ω : State) → StopsLocals m (judged_by σ.given.bits l) s σ e → ν ≡ relocated σ ν.given.locals → ω ≡ record ν { failed = true } → ReadsLocals m l s σ (Err e) s ω
    read_refused e ν ω stops others fails = record {
      exact = λ f. stopped_locals m (judged_by σ.given.bits l) s σ e refl going stops;
      stopped = λ f. absurd (not_both σ.failed going f);
      taken = tt;
      stops = stops;
      stays = refl;
      failed = ap (λ (x : State). x.failed) fails;
      others = refused_others ν ω others fails;
    }
      where
        refused_others : (x y : State) → x ≡ relocated σ x.given.locals → y ≡ record x { failed = true } → y ≡ record (relocated σ y.given.locals) { failed = y.failed }
        refused_others x y e f = f ∙ ap (λ (z : State). record z { failed = true }) (e ∙ ap (relocated σ) (sym (ap (λ (z : State). z.given.locals) f))) ∙ ap (λ (b : Bool). record (relocated σ y.given.locals) { failed = b }) (sym (ap (λ (z : State). z.failed) f))

    pub read_taken : (t : Bytes) (τ : State) → TakesLocals m (judged_by σ.given.bits l) s σ t τ → τ ≡ relocated σ τ.given.locals → ReadsLocals m l s σ (Ok tt) t τ
    read_taken t τ taken others =
        let failed : τ.failed ≡ σ.failed = ap (λ (x : State). x.failed) others in
        record {
          exact = λ f. taken_spelled m (judged_by σ.given.bits l) s σ refl t τ taken;
          stopped = λ f. absurd (not_both σ.failed going f);
          taken = taken;
          stops = tt;
          stays = tt;
          failed = failed ∙ going;
          others = others ∙ ap (λ (b : Bool). record (relocated σ τ.given.locals) { failed = b }) (sym failed);
        }

-- locals of a type
module _ (m : Meaning) (most : ℕ) (σ : State) (count : ℕ) (written : ValType) where
  pub defined_before : (e : ErrorValue) → σ.failed ≡ true → e.kind ≡ kinds.Failed → DefinesMore m most σ count written (Err e) σ
  defined_before e failed kind = record {
    exact = denies e.kind ((σ.failed ≡ false) × MayWrite m σ written × HasRoomFor most σ count) (λ (going, w, r). not_both σ.failed going failed);
    defined = tt;
    refused = inl (failed, kind);
  }

  refused_kind : (k : ErrorKind) → RefusesLocals m most σ count written k → Denies k ((σ.failed ≡ false) × MayWrite m σ written × HasRoomFor most σ count)
  refused_kind k (inl unwritten) = denies_from k (MayWrite m σ written) ((σ.failed ≡ false) × MayWrite m σ written × HasRoomFor most σ count) (λ (going, w, r). w) unwritten
  refused_kind k (inr (w, many)) = too_many k most σ count ((σ.failed ≡ false) × MayWrite m σ written × HasRoomFor most σ count) (λ (going, x, r). r) many

  pub defined_as : (answer : Result (Unit {0}) ErrorValue) (τ : State) → σ.failed ≡ false → OnOk answer (DefinesLocals m most σ count written τ) → IfErr answer (λ e. RefusesLocals m most σ count written e.kind)
      → DefinesMore m most σ count written answer τ
  defined_as (Ok u) τ going d r = record { exact = (going, (type_in m d.named, d.type), d.within); defined = d; refused = tt }
  defined_as (Err e) τ going d r = record { exact = refused_kind e.kind r; defined = tt; refused = inr (going, r) }
