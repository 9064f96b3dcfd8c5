-- A walk that adds each item to what was read: the whole section leads from what was read at first to where what is left of it leads
-- from what may have been read by then.
use Rattle.std.proofs.Common.{◌≡◌, ℕ, zero, suc, ◌+◌, ◌<◌, ◌≤◌, List, [], ◌∷◌, ◌++◌, length, take, drop, refl, sym, ap, ◌∙◌, subst, arith, false, Option, Some, None, Result, Ok, Err, inl, inr}
use Rattle.std.proofs.lemmas.List.{append_cancel_left, take-append-drop, length-take-le}
use Rattle.wasm_types.specs.settings.declared.Limits.{Limits}
use Rattle.wasm_types.specs.settings.Settings.{Settings}
use Rattle.wasm_types.specs.decoding.Decoder.{State, Outcome, Done, Decoder, Grammar, Decides, Many}
use Rattle.wasm_types.specs.decoding.ExactLaws.{value_is, state_is}
use Rattle.wasm_types.specs.decoding.declared.error.ErrorKind.{ErrorKind}
use Rattle.wasm_types.specs.decoding.declared.error.ErrorKind.TheVariants.{EndOfData, MissingFeature, OutOfMemory, Failed, Other}
use Rattle.wasm_types.specs.decoding.ErrorValue.{ErrorValue}
use Rattle.wasm_types.specs.decoding.Denials.{Denies}
use Rattle.wasm_types.specs.decoding.DenialLaws.{denies}
use Rattle.wasm_types.specs.reader.Reading.{FailsAt, Fails}
use Rattle.wasm_sections_items.specs.limited.Walking.{Walk, NextIn, Passes, fresh}
use Rattle.wasm_sections_items.specs.limited.Runs.{with_offset}
use Rattle.wasm_module_validator_section_order.specs.items.Adding.{Spelled, AddsEach, AreAdded, AddsShort, IsItemOf, IsRead, StopsAdding}

-- what would have to be read is denied by what refused it
unread : {Y : Type 0} (k : ErrorKind) (p : ℕ) (o : Outcome Y) (P : Type 0) → FailsAt k p o → (P → (y : Y) × (t : State) × (o ≡ Done y t)) → Denies k P
unread (EndOfData h) p o P f to = λ q. let e = (to q).2 in cc
unread (MissingFeature w) p o P f to = λ q. let e = (to q).2 in cc
unread OutOfMemory p o P f to = tt
unread Failed p o P f to = λ q. f
unread Other p o P f to = λ q. let e = (to q).2 in cc

-- what implies one of many things, each of which is denied, is denied
pub denies_each : {X : Type 0} (k : ErrorKind) (P : X → Type 0) (Q : Type 0) → (Q → (x : X) × P x) → ((x : X) → Denies k (P x)) → Denies k Q
denies_each (EndOfData h) P Q f d = λ q. let a = f q in d a.0 a.1
denies_each (MissingFeature h) P Q f d = λ q. let a = f q in d a.0 a.1
denies_each OutOfMemory P Q f d = tt
denies_each Failed P Q f d = λ q. let a = f q in d a.0 a.1
denies_each Other P Q f d = λ q. let a = f q in d a.0 a.1

-- ---- one item more behind others

module _ {M A : Type 0} (adds : M → A → M → Type 0) where
  -- what is read behind some items, and then with one more
  abbrev With : M → List A → A → M → Type 0
  With m xs x n = (k : M) × AddsEach adds m xs k × adds k x n

  one_more : (m : M) (xs : List A) (x : A) (n : M) → With m xs x n → AddsEach adds m (xs ++ x ∷ []) n
  one_more m [] x n (k, is, last) = (n, subst (λ (j : M). adds j x n) (sym is) last, refl)
  one_more m (y ∷ xs) x n (k, (j, first, more), last) = (j, first, one_more j xs x n (k, more, last))

  without_last : (m : M) (xs : List A) (x : A) (n : M) → AddsEach adds m (xs ++ x ∷ []) n → With m xs x n
  without_last m [] x n (k, last, is) = (m, refl, subst (λ (j : M). adds m x j) is last)
  without_last m (y ∷ xs) x n (j, first, more) = let a = without_last j xs x n more in (a.0, (j, first, a.1), a.2)

one_longer : {A : Type 0} (xs : List A) (x : A) → length (xs ++ x ∷ []) ≡ length xs + 1
one_longer [] x = refl
one_longer (y ∷ xs) x = omega (arith, one_longer xs x)

-- ---- where a walk stands

-- a walk behind some bytes of it, with so many items left
abbrev pub behind : Walk → ℕ → ℕ → Walk
behind w i k = record {
  left = k;
  reader = record { rest = drop i w.reader.rest; place = w.reader.place + i; settings = w.reader.settings; start = w.reader.start };
  over = w.over;
}

module _ {T V A M : Type 0} (view : T → V) (of : T → A) (d : Settings → Decoder V) (g : Settings → Grammar V) (adds : M → A → M → Type 0) (z : Settings) where
  -- what is left of the section is added
  abbrev pub Added : Walk → M → M → Type 0
  Added w = AreAdded (Spelled view of (g z)) adds w.left w.reader.rest

  -- What was read at first is this, and these items were added since. Something can be what is read by now, the state stands for
  -- whatever can be, and the whole section leads where what is left of it leads from there.
  pub record Leads {S : Type 0} (reads : S → M → Type 0) (n : ℕ) (b : State) (w : Walk) (u : S) (front : List A) (first : M) : Type 0 where
    pub some : (k : M) × AddsEach adds first front k
    pub stands : (k : M) → AddsEach adds first front k → reads u k
    pub to : (t : M) → Added (fresh n b) first t → (k : M) × AddsEach adds first front k × Added w k t
    pub from : (k t : M) → AddsEach adds first front k → Added w k t → Added (fresh n b) first t

  pub record Stands {S : Type 0} (reads : S → M → Type 0) (n : ℕ) (b : State) (s : S) (w : Walk) (u : S) : Type 0 where
    pub going : w.over ≡ false
    pub settings : w.reader.settings ≡ z
    pub front : List A
    pub read : AddsEach (IsRead view of (d z)) b front w.reader
    pub counted : w.left + length front ≡ n
    pub leads : (m : M) → reads s m → Leads reads n b w u front m

-- While a walk by these limits went from one place to another a state became another: whatever stood there stands here.
abbrev pub StandsOn : {T V A M S : Type 0} → (T → V) → (T → A) → (Settings → Decoder V) → (Settings → Grammar V) → (M → A → M → Type 0)
    → (S → M → Type 0) → Limits → Walk → Walk → S → S → Type 0
StandsOn {S = S} view of d g adds reads l w v before after = (z : Settings) (n : ℕ) (b : State) (s : S) → z.limits ≡ l
    → Stands view of d g adds z reads n b s w before → Stands view of d g adds z reads n b s v after

module _ {T V A M : Type 0} (view : T → V) (of : T → A) (alike : (x y : T) → view x ≡ view y → of x ≡ of y) (d : Settings → Decoder V) (g : Settings → Grammar V)
    (exact : (z : Settings) → Decides (d z) (g z)) (adds : M → A → M → Type 0) (z : Settings) where
  abbrev Here : Walk → M → M → Type 0
  Here = Added view of d g adds z

  abbrev G : Grammar A
  G = Spelled view of (g z)

  abbrev done : V → State → Outcome V
  done y s = Done y s

  -- where the reader stands behind some bytes
  abbrev after : Walk → List ℕ → List ℕ → State
  after w front back = record { rest = back; place = w.reader.place + length front; settings = w.reader.settings; start = w.reader.start }

  -- an item is read
  abbrev Reads : Walk → ℕ × T → Walk → Type 0
  Reads w x v = (w.over ≡ false) × (v.over ≡ false) × (w.left ≡ v.left + 1) × with_offset view d z w.reader x v.reader

  -- what an item read first tells of the items that are spelled
  abbrev First : Walk → T → M → M → Type 0
  First v x m t = (k : M) × adds m (of x) k × Here v k t

  first_spelled : (w v : Walk) (x : ℕ × T) (m t : M) → Reads w x v → Here w m t → First v x.1 m t
  first_spelled w v x m t (o, q, left, (place, read)) h =
      let one_more : w.left ≡ suc v.left = omega (arith, left) in
      go h.items (subst (λ (n : ℕ). Many G n h.items w.reader.rest) one_more h.spelled) h.each
    where
      go : (xs : List A) → Many G (suc v.left) xs w.reader.rest → AddsEach adds m xs t → First v x.1 m t
      go [] h each = absurd h
      go (a ∷ xs) (front, back, (y, is, spelled), many, parts) (k, here, more) =
          let complete : d z w.reader ≡ Done (view y) (after w front back)
          = (exact z).complete w.reader (after w front back) (view y) front (record { parts = parts; place = refl; settings = refl; start = refl }) spelled in
          let both : done (view x.1) v.reader ≡ done (view y) (after w front back) = sym read ∙ complete in
          let same : of x.1 ≡ a = alike x.1 y (value_is (view x.1) (view y) v.reader (after w front back) both) ∙ is in
          let state : v.reader ≡ after w front back = state_is (view x.1) (view y) v.reader (after w front back) both in (
            k,
            subst (λ (b : A). adds m b k) (sym same) here,
            record { items = xs; spelled = subst (λ (s : State). Many G v.left xs s.rest) (sym state) many; each = more },
          )

  spelled_first : (w v : Walk) (x : ℕ × T) (m t : M) → Reads w x v → First v x.1 m t → Here w m t
  spelled_first w v x m t (o, q, left, (place, read)) (k, here, behind) =
      let front = (exact z).sound w.reader v.reader (view x.1) read in
      let one_more : w.left ≡ suc v.left = omega (arith, left) in
      record {
        items = of x.1 ∷ behind.items;
        spelled = subst (λ (n : ℕ). Many (Spelled view of (g z)) n (of x.1 ∷ behind.items) w.reader.rest) (sym one_more)
            (front.0, v.reader.rest, (x.1, refl, front.2), behind.spelled, front.1.parts);
        each = (k, here, behind.each);
      }

  -- a section whose next item is not read, and one with a byte that is left, are not added
  not_read : (w : Walk) (m t : M) → 0 < w.left → Here w m t → (y : V) × (s : State) × (d z w.reader ≡ Done y s)
  not_read w m t some h = go w.left refl h.items h.spelled
    where
      go : (n : ℕ) → w.left ≡ n → (xs : List A) → Many (Spelled view of (g z)) n xs w.reader.rest → (y : V) × (s : State) × (d z w.reader ≡ Done y s)
      go zero e xs h = absurd (omega (arith, e, some))
      go (suc n) e [] h = absurd h
      go (suc n) e (a ∷ xs) (front, back, (y, is, spelled), many, parts) =
          (view y, after w front back, (exact z).complete w.reader (after w front back) (view y) front (record { parts = parts; place = refl; settings = refl; start = refl }) spelled)

  none_left : (w : Walk) (m t : M) → w.left ≡ 0 → 0 < length w.reader.rest → Here w m t → ⊥
  none_left w m t none some h = go h.items (subst (λ (n : ℕ). Many (Spelled view of (g z)) n h.items w.reader.rest) none h.spelled)
    where
      go : (xs : List A) → Many (Spelled view of (g z)) 0 xs w.reader.rest → ⊥
      go [] e = omega (arith, ap length e, some)
      go (a ∷ xs) e = e

  module _ {S : Type 0} (reads : S → M → Type 0) (n : ℕ) (b : State) (s : S) where
    abbrev Led : Walk → S → List A → M → Type 0
    Led = Leads view of d g adds z reads n b

    abbrev Standing : Walk → S → Type 0
    Standing = Stands view of d g adds z reads n b s

    pub stands_first : b.settings ≡ z → Standing (fresh n b) s
    stands_first e = record {
      going = refl;
      settings = e;
      front = [];
      read = refl;
      counted = omega arith;
      leads = λ m h. record {
        some = (m, refl);
        stands = λ k is. subst (λ (j : M). reads s j) is h;
        to = λ t a. (m, refl, a);
        from = λ k t is a. subst (λ (j : M). Here (fresh n b) j t) (sym is) a;
      };
    }

    -- what a step tells of an item, under the settings of the section
    abbrev Step : Walk → Option (Result (ℕ × T) ErrorValue) → Walk → Type 0
    Step w r v = NextIn (with_offset view d w.reader.settings) (λ c e. Fails e (d w.reader.settings c)) w r v

    is_read : (w v : Walk) (x : ℕ × T) → w.reader.settings ≡ z → Step w (Some (Ok x)) v → Reads w x v
    is_read w v x e step = subst (λ (y : Settings). (w.over ≡ false) × (v.over ≡ false) × (w.left ≡ v.left + 1) × with_offset view d y w.reader x v.reader) e step

    -- with an item added it stands behind it
    pub stands_behind : (w v : Walk) (u u' : S) (x : ℕ × T) → Standing w u → Step w (Some (Ok x)) v → v.reader.settings ≡ w.reader.settings
        → ((m : M) → reads u m → (k : M) × adds m (of x.1) k) → ((m k : M) → reads u m → adds m (of x.1) k → reads u' k) → Standing v u'
    stands_behind w v u u' x h step kept may_now added = record {
      going = step.1;
      settings = kept ∙ h.settings;
      front = h.front ++ of x.1 ∷ [];
      read = one_more (IsRead view of (d z)) b h.front (of x.1) v.reader (w.reader, h.read, (x.1, refl, read.3.1));
      counted = omega (arith, counts, left, one_longer h.front (of x.1));
      leads = λ m first. behind m (h.leads m first);
    }
      where
        read : Reads w x v
        read = is_read w v x h.settings step

        counts : w.left + length h.front ≡ n
        counts = h.counted

        left : w.left ≡ v.left + 1
        left = read.2

        behind : (m : M) → Led w u h.front m → Led v u' (h.front ++ of x.1 ∷ []) m
        behind m l =
            let last = may_now l.some.0 (l.stands l.some.0 l.some.1) in
            record {
              some = (last.0, one_more adds m h.front (of x.1) last.0 (l.some.0, l.some.1, last.1));
              stands = λ k is. let a = without_last adds m h.front (of x.1) k is in added a.0 k (l.stands a.0 a.1) a.2;
              to = λ t all.
                  let a = l.to t all in
                  let f = first_spelled w v x a.0 t read a.2 in
                  (f.0, one_more adds m h.front (of x.1) f.0 (a.0, a.1, f.1), f.2);
              from = λ k t is all.
                  let a = without_last adds m h.front (of x.1) k is in
                  l.from a.0 t a.1 (spelled_first w v x a.0 t read (k, a.2, all));
            }

    -- behind no bytes a walk stands as it is
    pub stands_at_once : (k : ℕ) (w : Walk) (u : S) → w.left ≡ k → Standing w u → Standing (behind w 0 k) u
    stands_at_once k w u e h =
        let r = w.reader in
        let none : r.place ≡ r.place + 0 = omega arith in
        subst (λ (p : ℕ). Standing (record { left = k; reader = record { rest = r.rest; place = p; settings = r.settings; start = r.start }; over = w.over }) u) none
        (subst (λ (j : ℕ). Standing (record { left = j; reader = r; over = w.over }) u) e h)

    -- what stands behind some bytes of a walk stands where the walk has passed them
    pub stands_passed : (i k : ℕ) (w v : Walk) (u : S) → i ≤ length w.reader.rest → Passes i k w v → Standing (behind w i k) u → Standing v u
    stands_passed i k w v u inside (taken, left, over) h =
        let r = w.reader in
        let rest : v.reader.rest ≡ drop i r.rest = append_cancel_left (take i r.rest) v.reader.rest (drop i r.rest) (sym taken.parts ∙ sym (take-append-drop i r.rest)) in
        let place : v.reader.place ≡ r.place + i = omega (arith, taken.place, length-take-le i r.rest inside) in
        let settings = taken.settings in
        let start = taken.start in
        let whole : v ≡ record {
          left = v.left;
          reader = record { rest = v.reader.rest; place = v.reader.place; settings = v.reader.settings; start = v.reader.start };
          over = v.over;
        } = refl in
        let here : v ≡ behind w i k = whole ∙ cc in
        subst (λ (y : Walk). Standing y u) (sym here) h

    -- the same of an item that is told from its bytes alone
    pub stands_behind_short : (l : Limits) (text : List ℕ) (i j k : ℕ) (w : Walk) (u u' : S) → z.limits ≡ l → w.reader.rest ≡ text
        → AddsShort view of g adds reads u u' l text i j → Standing (behind w i (suc k)) u → Standing (behind w j k) u'
    stands_behind_short l text i j k w u u' same e a h =
        let before = behind w i (suc k) in
        let then = behind w j k in
        let read : d before.reader.settings before.reader ≡ Done (view a.item) then.reader
        = (exact before.reader.settings).complete before.reader then.reader (view a.item) a.front
        (record {
          parts = subst (λ (t : List ℕ). drop i t ≡ a.front ++ drop j t) (sym e) a.whole;
          place = omega (arith, a.place);
          settings = refl;
          start = refl;
        }) (a.spelled before.reader.settings (ap (λ (y : Settings). y.limits) h.settings ∙ same)) in
        stands_behind before then u u' (before.reader.place, a.item) h (h.going, h.going, omega arith, (refl, read)) refl a.may a.added

    -- an item that may not be added
    pub refused_item : (w v : Walk) (u : S) (x : ℕ × T) (k : ErrorKind) → Standing w u → Step w (Some (Ok x)) v
        → ((m : M) → reads u m → Denies k ((n : M) × adds m (of x.1) n)) → (m : M) → reads s m → Denies k ((t : M) × Here (fresh n b) m t)
    refused_item w v u x k h step not_valid m first = go (h.leads m first)
      where
        go : Led w u h.front m → Denies k ((t : M) × Here (fresh n b) m t)
        go l = denies_each {X = (j : M) × AddsEach adds m h.front j} k (λ j. (n : M) × adds j.0 (of x.1) n) _
            (λ all. let a = l.to all.0 all.1 in let f = first_spelled w v x a.0 all.0 (is_read w v x h.settings step) a.2 in ((a.0, a.1), (f.0, f.1)))
            (λ j. not_valid j.0 (l.stands j.0 j.1))

    -- an item that is not read, or a byte that is left
    pub refused_bytes : (w v : Walk) (u : S) (e : ErrorValue) → Standing w u → Step w (Some (Err e)) v → (m : M) → reads s m → Denies e.kind ((t : M) × Here (fresh n b) m t)
    refused_bytes w v u e h (o, p, inl trailing) m first =
        let l = h.leads m first in
        denies e.kind _ (λ all. let a = l.to all.0 all.1 in none_left w a.0 all.0 trailing.0 trailing.1 a.2)
    refused_bytes w v u e h (o, p, inr refused) m first =
        let l = h.leads m first in
        unread e.kind e.offset (d z w.reader) _ (subst (λ (y : Settings). Fails e (d y w.reader)) h.settings refused.1)
        (λ all. let a = l.to all.0 all.1 in not_read w a.0 all.0 refused.0 a.2)

    -- the item that was read last is one of the section
    pub is_item : (w v : Walk) (u : S) (x : ℕ × T) → b.settings ≡ z → (h : Standing w u) → Step w (Some (Ok x)) v → IsItemOf view of d n b h.front (of x.1)
    is_item w v u x same h step = go (is_read w v x h.settings step)
      where
        go : Reads w x v → IsItemOf view of d n b h.front (of x.1)
        go (o, q, left, (place, read)) =
            let counts = h.counted in
            record {
              here = w.reader;
              there = v.reader;
              read = subst (λ (y : Settings). AddsEach (IsRead view of (d y)) b h.front w.reader) (sym same) h.read;
              fewer = omega (arith, left, counts);
              is = subst (λ (y : Settings). IsRead view of (d y) w.reader (of x.1) v.reader) (sym same) (x.1, refl, read);
            }

    -- what was added leads to what the state stands for
    pub leads_here : (w : Walk) (u : S) (h : Standing w u) (m : M) → reads s m → (k : M) × AddsEach adds m h.front k × reads u k
    leads_here w u h m first = let l = h.leads m first in (l.some.0, l.some.1, l.stands l.some.0 l.some.1)

    -- ---- why it stops

    module _ (refuses : M → A → ℕ → ErrorValue → Type 0) where
      abbrev Stopped : M → ErrorValue → Type 0
      Stopped = StopsAdding view of (d z) adds refuses n b

      pub stops_at_an_item : (w v : Walk) (u : S) (x : ℕ × T) (e : ErrorValue) → Standing w u → Step w (Some (Ok x)) v → ((m : M) → reads u m → refuses m (of x.1) x.0 e)
          → (m : M) → reads s m → Stopped m e
      stops_at_an_item w v u x e h step refused m first = go (h.leads m first) (is_read w v x h.settings step)
        where
          go : Led w u h.front m → Reads w x v → Stopped m e
          go l (o, q, left, (place, read)) = record {
            items = h.front;
            here = w.reader;
            now = l.some.0;
            read = h.read;
            each = l.some.1;
            stops = inr (
              omega (arith, left, h.counted),
              inr (x.1, v.reader, read, subst (λ (p : ℕ). refuses l.some.0 (of x.1) p e) place (refused l.some.0 (l.stands l.some.0 l.some.1))),
            );
          }

      pub stops_at_bytes : (w v : Walk) (u : S) (e : ErrorValue) → Standing w u → Step w (Some (Err e)) v → (m : M) → reads s m → Stopped m e
      stops_at_bytes w v u e h (o, p, inl trailing) m first =
          let l = h.leads m first in
          record {
            items = h.front;
            here = w.reader;
            now = l.some.0;
            read = h.read;
            each = l.some.1;
            stops = inl (omega (arith, trailing.0, h.counted), (trailing.1, trailing.2, trailing.3));
          }
      stops_at_bytes w v u e h (o, p, inr refused) m first =
          let l = h.leads m first in
          record {
            items = h.front;
            here = w.reader;
            now = l.some.0;
            read = h.read;
            each = l.some.1;
            stops = inr (omega (arith, refused.0, h.counted), inl (subst (λ (y : Settings). Fails e (d y w.reader)) h.settings refused.1));
          }

    -- ---- the end

    nothing_left : (w : Walk) (k t : M) → w.left ≡ 0 → Here w k t → k ≡ t
    nothing_left w k t none h = go h.items (subst (λ (j : ℕ). Many (Spelled view of (g z)) j h.items w.reader.rest) none h.spelled) h.each
      where
        go : (xs : List A) → Many (Spelled view of (g z)) 0 xs w.reader.rest → AddsEach adds k xs t → k ≡ t
        go [] e is = is
        go (x ∷ xs) e is = absurd e

    pub are_added_at_the_end : (w v : Walk) (u : S) → Standing w u → Step w None v → (m : M) → reads s m → (t : M) × Here (fresh n b) m t
    are_added_at_the_end w v u h (inl over, q) m first = absurd (let e = sym over ∙ h.going in cc)
    are_added_at_the_end w v u h (inr (none, rest), q) m first =
        let l = h.leads m first in (
          l.some.0,
          l.from l.some.0 l.some.0 l.some.1 (record {
            items = [];
            spelled = subst (λ (k : ℕ). Many (Spelled view of (g z)) k [] w.reader.rest) (sym none) rest;
            each = refl;
          }),
        )

    pub stands_at_the_end : (w v : Walk) (u : S) → Standing w u → Step w None v → (m t : M) → reads s m → Here (fresh n b) m t → reads u t
    stands_at_the_end w v u h (inl over, q) m t first all = absurd (let e = sym over ∙ h.going in cc)
    stands_at_the_end w v u h (inr (none, rest), q) m t first all =
        let l = h.leads m first in
        let a = l.to t all in
        subst (λ (j : M). reads u j) (nothing_left w a.0 t none a.2) (l.stands a.0 a.1)
