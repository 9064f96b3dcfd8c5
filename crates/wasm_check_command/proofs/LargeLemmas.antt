-- On an input of which some bytes were read, and those that come behind them.
use Rattle.std.proofs.Common.{◌≡◌, ◌∙◌, ◌<◌, ◌≤◌, ◌+◌, ◌^◌, ℕ, Bool, true, false, List, [], ◌++◌, length, take, Option, Some, None, Result, Ok, Err, inl, inr, refl, sym, ap, subst, arith, append-nil, append_assoc, length-append, length-take-le}
use Rattle.std.specs.Prelude.{codes, if◌then◌else◌, IfErr, IfOk}
use Rattle.std.specs.Io.KnownBytes.{Appends, Consumes, IsAtEnd, Keeps, prepend_known}
use Rattle.std.proofs.KnownBytes.{Consumes-kept, Consumes-nil, Consumes-trans}
use Rattle.std.proofs.lemmas.Bool.{false≢true}
use Rattle.wasm_types.specs.decoding.Denials.{Denies, Tells}
use Rattle.wasm_types.specs.decoding.ErrorValue.{ErrorValue}
use Rattle.wasm_types.specs.decoding.declared.error.ErrorKind.{ErrorKind}
use Rattle.wasm_types.specs.decoding.declared.error.ErrorKind.TheVariants as kinds
use Rattle.wasm_types.specs.reader.Reading.{IsNotMemory}
use Rattle.wasm_types.specs.settings.declared.Limits.{Limits}
use Rattle.wasm_types.specs.settings.Settings.{Settings}
use Rattle.wasm_check_lines.specs.Causes.{cause_of}
use Rattle.wasm_check_lines.specs.Explanations.{explanation_member}
use Rattle.wasm_check_lines.specs.Forms.{cause_member, hint_member, invalid_line, kind_word, lines_below, refusal_object, refused_text, valid_text}
use Rattle.wasm_check_lines.specs.Hints.{is_text, hint_for}
use Rattle.wasm_check_lines.specs.declared.forms.Form.{Form}
use Rattle.wasm_check_lines.specs.declared.forms.Form.TheVariants as forms
use Rattle.wasm_check_lines.specs.declared.causes.Cause.{Cause}
use Rattle.wasm_check_lines.specs.declared.causes.Cause.TheVariants as causes
use Rattle.wasm_check_faults.specs.declared.error.CheckError.{CheckError}
use Rattle.wasm_check_faults.specs.declared.error.CheckError.TheVariants.{Read, TooLong, OutOfMemory, Write}
use Rattle.wasm_check_command.specs.Faults.{FailsReading}
use Rattle.wasm_check_command.specs.Lines.{HasBytes}
use Rattle.wasm_check_command.specs.Manners.{Manner}
use Rattle.wasm_check_command.specs.Modes.{AreLeft, BeginsBinary, HasBegun, HasVerdict, IsShort, IsTooLong, ReadsWithin, Ruling, ruled}
use Rattle.wasm_check_command.specs.Verdict.{FailsAt, IsJudged, IsTextOf, IsVerdict, WritesFront}
use Rattle.wasm_check_command.specs.declared.judging.Failure.{Failure}
use Rattle.wasm_check_command.specs.declared.judging.Mode.TheVariants.{Whole}

-- what is put before the bytes that a reader has is read before them
pub prepend_read : (bytes : List ℕ) (said : Option (List ℕ)) → Consumes (prepend_known bytes said) said bytes
prepend_read bytes None = tt
prepend_read bytes (Some xs) = refl

pub prepend_none : (said : Option (List ℕ)) → prepend_known [] said ≡ said
prepend_none None = refl
prepend_none (Some xs) = refl

-- ---- a reader that gave some bytes

module _ (bytes : List ℕ) where
  pub behind_left : (a b : Option (List ℕ)) (all : List ℕ) → Consumes a b bytes → AreLeft (prepend_known bytes b) all → AreLeft a all
  behind_left None b all read left = tt
  behind_left (Some x) None all read left = absurd read
  behind_left (Some x) (Some y) all read left = read ∙ left

  pub behind_within : (a b c : Option (List ℕ)) → Consumes a b bytes → ReadsWithin (prepend_known bytes b) c → ReadsWithin a c
  behind_within None b c read (got, more, few) = (got, tt, few)
  behind_within (Some x) None c read w = absurd read
  behind_within (Some x) (Some y) None read (got, more, few) = absurd more
  behind_within (Some x) (Some y) (Some z) read (got, more, few) = (got, read ∙ more, few)

  too_long : (a b : Option (List ℕ)) → Consumes a b bytes → IsTooLong (prepend_known bytes b) → IsTooLong a
  too_long None b read long = tt
  too_long (Some x) None read long = absurd read
  too_long (Some x) (Some y) read long = subst (λ (l : List ℕ). IsTooLong (Some l)) (sym read) long

  pub behind_fails : (index : ℕ) (a b : Option (List ℕ)) (e : CheckError) → Consumes a b bytes → FailsReading index (prepend_known bytes b) e → FailsReading index a e
  behind_fails index a b (Read i) read h = h
  behind_fails index a b (TooLong i) read h = (h.0, too_long a b read h.1)
  behind_fails index a b (OutOfMemory i) read h = h
  behind_fails index a b Write read h = absurd h

-- ---- what is written of bytes that begin as a binary module does

-- they are no text
not_text : (bytes : List ℕ) → BeginsBinary bytes → is_text bytes ≡ is_text []
unfolding is_text
not_text bytes (rest, e) = subst (λ (l : List ℕ). is_text l ≡ is_text []) (sym e) refl

same_hint : (z : Limits) (cause : Cause) (bytes : List ℕ) → is_text bytes ≡ is_text [] → hint_for z cause bytes ≡ hint_for z cause []
same_hint z causes.Vectors bytes e = refl
same_hint z (causes.Limit l) bytes e = refl
same_hint z (causes.Feature f) bytes e = refl
same_hint z causes.FixedLimit bytes e = refl
same_hint z causes.Types bytes e = refl
same_hint z causes.Another bytes e = ap (λ (b : Bool). if b then Some (codes "this is the text format; wasm-check judges the binary format") else None) e

-- so their line is that of an input of which nothing is seen
same_line : (form : Form) (explains : Bool) (name : List ℕ) (l : Limits) (e : ErrorValue) (bytes : List ℕ) → BeginsBinary bytes
    → refused_text form explains name l e [] None ≡ refused_text form explains name l e bytes None
same_line forms.Lines explains name l e bytes b = ap (λ (hint : Option (List ℕ)). invalid_line name e ++ lines_below explains hint None) (sym (same_hint l (cause_of l e) bytes (not_text bytes b)))
same_line forms.Json explains name l e bytes b =
    ap (λ (hint : Option (List ℕ)). refusal_object name e.offset (kind_word (cause_of l e) e.kind) e.message (cause_member (cause_of l e) ++ hint_member hint ++ explanation_member None))
    (sym (same_hint l (cause_of l e) bytes (not_text bytes b)))
same_line forms.Quiet explains name l e bytes b = refl

module _ (accepts : Settings → List ℕ → Type 0) (z : Settings) (m : Manner) (alone : m.needs ≡ false) (name bytes line : List ℕ) where
  alone_verdict : (valid : Bool) → IsVerdict (ruled (record { form = m.form; explains = m.explains; needs = false }) Whole accepts z) name bytes valid line
      → IsVerdict (ruled m Whole accepts z) name bytes valid line
  alone_verdict valid h = subst (λ (needs : Bool). IsVerdict (ruled (record { form = m.form; explains = m.explains; needs = needs }) Whole accepts z) name bytes valid line) (sym alone) h

  pub valid_verdict : accepts z bytes → line ≡ valid_text m.form name → IsVerdict (ruled m Whole accepts z) name bytes true line
  valid_verdict a e = alone_verdict true (record { told = inl (a, e); tested = ((λ t. a), (λ b. refl)) })

  pub refused_verdict : (accepts z bytes → ⊥) → BeginsBinary bytes → (l : Limits) (e : ErrorValue) → line ≡ refused_text m.form m.explains name l e [] None
      → IsVerdict (ruled m Whole accepts z) name bytes false line
  refused_verdict none b l e same = alone_verdict false (record {
    told = inr (none, (e, l, None, inr refl, same ∙ same_line m.form m.explains name l e bytes b));
    tested = ((λ t. absurd (false≢true t)), (λ a. absurd (none a)));
  })

-- a refusal that is not for memory denies what it refuses
no_memory_denies : (k : ErrorKind) (A : Type 0) → Denies k A → IsNotMemory k → A → ⊥
no_memory_denies (kinds.EndOfData h) A d other = d
no_memory_denies (kinds.MissingFeature f) A d other = d
no_memory_denies kinds.OutOfMemory A d other = absurd other
no_memory_denies kinds.Failed A d other = d
no_memory_denies kinds.Other A d other = d

module _ (accepts : Settings → List ℕ → Type 0) (z : Settings) (m : Manner) (alone : m.needs ≡ false) (name front : List ℕ) (binary : BeginsBinary front)
    (said : Option (List ℕ)) (verdict : Result (Unit {0}) ErrorValue) (h : HasVerdict (accepts z) front said verdict)
    (l : Limits) (valid : Bool) (line : List ℕ) (text : IsTextOf m l name verdict valid line) where
  has_all : HasBytes (ruled m Whole accepts z) (prepend_known front said) (front ++ h.0)
  has_all = record { same = h.1; within = h.2 }

  told_all : IsVerdict (ruled m Whole accepts z) name (front ++ h.0) valid line
  told_all = go verdict h.3 text
    where
      go : (v : Result (Unit {0}) ErrorValue) → Tells v (accepts z (front ++ h.0)) → IsTextOf m l name v valid line → IsVerdict (ruled m Whole accepts z) name (front ++ h.0) valid line
      go (Ok u) t text = subst (λ (v : Bool). IsVerdict (ruled m Whole accepts z) name (front ++ h.0) v line) (sym text.0)
          (valid_verdict accepts z m alone name (front ++ h.0) line t text.1)
      go (Err e) d text = subst (λ (v : Bool). IsVerdict (ruled m Whole accepts z) name (front ++ h.0) v line) (sym text.0)
          (refused_verdict accepts z m alone name (front ++ h.0) line (no_memory_denies e.kind (accepts z (front ++ h.0)) d text.1)
          (binary.0 ++ h.0, ap (λ (l : List ℕ). l ++ h.0) binary.1) l e text.2)

  -- the line was written
  pub large_judged : (old new : Option (List ℕ)) → Appends old new line → IsJudged (ruled m Whole accepts z) name (prepend_known front said) valid old new
  large_judged old new written = record { bytes = front ++ h.0; has = has_all; written = record { line = line; verdict = told_all; appended = written } }

  -- it could not be
  pub large_unwritten : (index : ℕ) (old new : Option (List ℕ)) (e : CheckError) → (e ≡ Write) × WritesFront line old new
      → FailsAt (ruled m Whole accepts z) index name (prepend_known front said) old new e
  large_unwritten index old new e (same, w) = subst (λ (e : CheckError). FailsAt (ruled m Whole accepts z) index name (prepend_known front said) old new e) (sym same)
      (w.front, inr (front ++ h.0, has_all, (line, w.rest, told_all.told, w.whole)), w.appended)

-- ---- an input of which the first bytes were read

module _ (ruling : Ruling) (name front : List ℕ) (a b old new : Option (List ℕ)) (read : Consumes a b front) where
  behind_bytes : (bytes : List ℕ) → HasBytes ruling (prepend_known front b) bytes → HasBytes ruling a bytes
  behind_bytes bytes has = record { same = behind_left front a b bytes read has.same; within = has.within }

  pub behind_judged : (r : Result Bool Failure) → IfOk r (λ valid. IsJudged ruling name (prepend_known front b) valid old new) → IfOk r (λ valid. IsJudged ruling name a valid old new)
  behind_judged (Ok valid) h = record { bytes = h.bytes; has = behind_bytes h.bytes h.has; written = h.written }
  behind_judged (Err f) h = tt

  behind_unjudged : (index : ℕ) (e : CheckError) → FailsAt ruling index name (prepend_known front b) old new e → FailsAt ruling index name a old new e
  behind_unjudged index (Read i) h = h
  behind_unjudged index (TooLong i) h = (h.0, too_long front a b read h.1, h.2)
  behind_unjudged index (OutOfMemory i) h = h
  behind_unjudged index Write (text, inl none, written) = (text, inl none, written)
  behind_unjudged index Write (text, inr (bytes, has, begins), written) = (text, inr (bytes, behind_bytes bytes has, begins), written)

  pub behind_stopped : (index : ℕ) (r : Result Bool Failure) → IfErr r (λ f. FailsAt ruling index name (prepend_known front b) old new f.error)
      → IfErr r (λ f. FailsAt ruling index name a old new f.error)
  behind_stopped index (Ok valid) h = tt
  behind_stopped index (Err f) h = behind_unjudged index f.error h

-- ---- a reader at its end

pub all_left : (front : List ℕ) (a b : Option (List ℕ)) (got : List ℕ) → Consumes a b got → IsAtEnd b → AreLeft (prepend_known front a) (front ++ got)
all_left front None b got read end = tt
all_left front (Some x) None got read end = absurd read
all_left front (Some x) (Some y) got read end = ap (λ (l : List ℕ). front ++ l) (read ∙ ap (λ (l : List ℕ). got ++ l) end ∙ append-nil got)

-- what a reader gave behind some bytes, it gave of those and its own
pub behind_read : (front : List ℕ) (a b : Option (List ℕ)) (got : List ℕ) → Consumes a b got → Consumes (prepend_known front a) b (front ++ got)
behind_read front None b got read = tt
behind_read front (Some x) None got read = absurd read
behind_read front (Some x) (Some y) got read = ap (λ (l : List ℕ). front ++ l) read ∙ sym (append_assoc front got y)

-- one read more is too much
pub more_too_long : (front : List ℕ) (a b : Option (List ℕ)) (got : List ℕ) → Consumes a b got → 2 ^ 30 < length (front ++ got) → IsTooLong (prepend_known front a)
more_too_long front None b got read long = tt
more_too_long front (Some x) None got read long = absurd read
more_too_long front (Some x) (Some y) got read long = subst (λ (l : List ℕ). 2 ^ 30 < length (front ++ l)) (sym read) (longer front got y long)
  where
    longer : (front got y : List ℕ) → 2 ^ 30 < length (front ++ got) → 2 ^ 30 < length (front ++ (got ++ y))
    longer front got y long =
        let first = length-append front got in
        let inner = length-append got y in
        let all = length-append front (got ++ y) in
        omega (arith, long, first, inner, all)

-- ---- a module whose bytes come

-- of a reader these bytes were read, so many with those before them, and they came too
abbrev pub HasBehind : {M : Type 0} → (Settings → List ℕ → M → Type 0) → Settings → List ℕ → Option (List ℕ) → Option (List ℕ) → ℕ → M → Type 0
HasBehind came z front before after count begun = (got : List ℕ) × Consumes before after got × (count ≡ length (front ++ got)) × came z (front ++ got) begun

module _ {M : Type 0} (came : Settings → List ℕ → M → Type 0) (z : Settings) (front : List ℕ) (a : Option (List ℕ)) where
  pub none_behind : (begun : M) → came z front begun → HasBehind came z front a a (length front) begun
  none_behind begun h = ([], Consumes-nil a, ap length (sym (append-nil front)), subst (λ (l : List ℕ). came z l begun) (sym (append-nil front)) h)

  module _ (b c : Option (List ℕ)) (count : ℕ) (begun : M) (h : HasBehind came z front a b count begun) where
    pub begun_behind : HasBegun came begun
    begun_behind = (z, front ++ h.0, h.3)

    -- a read failed
    pub kept_within : Keeps b c → count ≤ 2 ^ 30 → ReadsWithin (prepend_known front a) c
    kept_within kept short = (front ++ h.0, behind_read front a c h.0 (Consumes-kept a b c h.0 h.1 kept), (let before = h.2 in omega (arith, before, short)))

    -- so many bytes more were read
    module _ (chunk : List ℕ) (n : ℕ) (few : n ≤ length chunk) (gives : Consumes b c (take n chunk)) where
      both : List ℕ
      both = h.0 ++ take n chunk

      read_both : Consumes a c both
      unfolding both
      read_both = Consumes-trans a b c h.0 (take n chunk) h.1 gives

      joined : front ++ both ≡ (front ++ h.0) ++ take n chunk
      unfolding both
      joined = sym (append_assoc front h.0 (take n chunk))

      length_both : length (front ++ both) ≡ count + n
      length_both =
          let parts : length (front ++ both) ≡ length (front ++ h.0) + length (take n chunk) = ap length joined ∙ length-append (front ++ h.0) (take n chunk) in
          let some = length-take-le n chunk few in
          let before = h.2 in
          omega (arith, parts, some, before)

      pub within_both : count + n ≤ 2 ^ 30 + 1 → ReadsWithin (prepend_known front a) c
      within_both short = (front ++ both, behind_read front a c both read_both, (let all = length_both in omega (arith, all, short)))

      pub long_both : 2 ^ 30 < count + n → IsTooLong (prepend_known front a)
      long_both long = more_too_long front a c both read_both (let all = length_both in omega (arith, all, long))

      pub more_behind : (after : M) → ((z : Settings) (got : List ℕ) → came z got begun → came z (got ++ take n chunk) after) → HasBehind came z front a c (count + n) after
      more_behind after more = (both, read_both, sym length_both, subst (λ (l : List ℕ). came z l after) (sym joined) (more z (front ++ h.0) h.3))

    -- the reader is at its end
    pub end_behind : (accepts : Settings → List ℕ → Type 0) (chunk : List ℕ) → Consumes b c (take 0 chunk) → IsAtEnd c → count ≤ 2 ^ 30 → (verdict : Result (Unit {0}) ErrorValue)
        → ((z : Settings) (got : List ℕ) → came z got begun → IsShort got → Tells verdict (accepts z got)) → HasVerdict (accepts z) front a verdict
    end_behind accepts chunk gives end short verdict told = (
      h.0,
      all_left front a c h.0 (subst (Consumes a c) (append-nil h.0) (Consumes-trans a b c h.0 [] h.1 gives)) end,
      fits,
      told z (front ++ h.0) h.3 fits,
    )
      where
        fits : IsShort (front ++ h.0)
        fits = let before = h.2 in omega (arith, before, short)
