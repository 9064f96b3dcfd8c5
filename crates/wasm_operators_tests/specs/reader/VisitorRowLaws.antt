-- What is told of what is read computes; what is not told follows from what is read.
use Rattle.std.proofs.Common.{◌≡◌, ◌∙◌, ℕ, List, [], ◌∷◌, refl, sym, ap, subst, arith, lit<, true, false, inl, inr, Some}
use Rattle.wasm_types.specs.decoding.Decoder.{State, Done}
use Rattle.wasm_types.specs.decoding.ExactLaws.{value_is}
use Rattle.wasm_types.specs.decoding.Leb.{unsigned}
use Rattle.wasm_types.specs.decoding.declared.error.ErrorKind.{ErrorKind}
use Rattle.wasm_types.specs.decoding.declared.error.ErrorKind.TheVariants.{EndOfData, OutOfMemory, Other}
use Rattle.wasm_types.specs.decoding.ErrorValue.{ErrorValue}
use Rattle.wasm_types.specs.settings.Features.{has, judges_vectors}
use Rattle.wasm_types.specs.settings.Limits.{default_limits}
use Rattle.wasm_types.specs.settings.Settings.{no_features}
use Rattle.wasm_types.specs.reader.Reading.{Fails}
use Rattle.wasm_operators_immediates.specs.declared.frames.FrameKind.TheVariants.{Block}
use Rattle.wasm_operators_enums.specs.declared.control.ControlOperator.TheVariants as control
use Rattle.wasm_operators_enums.specs.Op as op
use Rattle.wasm_operators_enums.specs.Roles.{role_of, fits}
use Rattle.wasm_operators_enums.specs.declared.role.Role.TheVariants.{Plain, End}
use Rattle.wasm_operators_enums.specs.Table.{info_of}
use Rattle.wasm_operators_encoding.specs.Opcodes.{opcode}
use Rattle.wasm_operators_encoding.specs.Groups.{numeric_kinds, simd_numeric_kinds}
use Rattle.wasm_operators_encoding.specs.Coded.{Coded, operator}
use Rattle.wasm_operators_encoding.specs.Operators.{coded_of}
use Rattle.wasm_operators_encoding.specs.OperatorLaws.{coded_apart}
use Rattle.wasm_operators_encoding.specs.immediates.Bytes.{vector}
use Rattle.wasm_operators_encoding.specs.immediates.Immediates.{immediate}
use Rattle.wasm_operators_enums.specs.Vectors.{is_simd}
use Rattle.wasm_operators_reader.specs.Standing.{Standing, Reads, Refuses, Runs}
use Rattle.wasm_operators_reader.specs.StandingLaws.{one_step, unread, nothing_follows, refused_no_step}
use Rattle.wasm_operators_reader.specs.FirstByte.{ToldFirst}
use Rattle.wasm_operators_reader.specs.Visiting.{RefusesVector}
use Rattle.wasm_operators_reader.specs.Walking.{HasNoVectors, VisitsAll, WalksTo}
use Rattle.wasm_operators_reader.specs.walks.InFrame.{ReadsIn, IsMisplaced}
use Rattle.wasm_operators_frequent.proofs.ShortReading.{told_alone}
use Rattle.wasm_operators_tests.specs.reader.Rows.{constant, before_constant, behind, choice}
use Rattle.wasm_operators_tests.specs.reader.StandingRows.{at, before_nop, before_end, behind_end, nop, end, error}
use Rattle.wasm_operators_tests.specs.reader.StandingRowLaws.{nop_read, end_read, else_read, else_is_read, none_wanted}
use Rattle.wasm_operators_tests.specs.reader.VisitorRows.{counts, VisitRows, WalkRows, FirstByteRows, FrameRows}

abbrev behind_constant : Standing
behind_constant = behind 18 (0x1a ∷ 0x0b ∷ [])

constant_read : Reads before_constant constant behind_constant
unfolding default_limits unsigned opcode numeric_kinds simd_numeric_kinds operator vector immediate
constant_read = record { canonical = refl; read = refl; fits = refl }

abbrev code : op.Op → ℕ
code o = (info_of o).code

vector_refused : RefusesVector before_constant (error Other 0)
vector_refused = record { op = constant; behind = behind_constant; read = constant_read; vector = refl; kind = refl; offset = refl }

-- an operator that is read where another is, is that
is_nop : (o : op.Op) (t : Standing) → Reads before_nop o t → nop ≡ o
is_nop o t r = (one_step _ _ _ _ _ nop_read r).0

is_end : (o : op.Op) (t : Standing) → Reads before_end o t → end ≡ o
is_end o t r = (one_step _ _ _ _ _ end_read r).0

is_constant : (o : op.Op) (t : Standing) → Reads before_constant o t → constant ≡ o
is_constant o t r = (one_step _ _ _ _ _ constant_read r).0

-- none on vectors is read there
no_plain : (o : op.Op) (t : Standing) → Reads before_constant o t → is_simd o ≡ false → ⊥
no_plain o t r plain = let e : true ≡ false = ap is_simd (is_constant o t r) ∙ plain in cc

abbrev kind_of_error : ErrorValue → ErrorKind
kind_of_error e = e.kind

-- what the first byte tells is not told otherwise
not_told_second : (f e : ErrorValue) → (e.kind ≡ Other → ⊥) → (e.kind ≡ OutOfMemory → ⊥) → ToldFirst (Some Other) 0 f e → ⊥
not_told_second f e other memory (inl t) = other t.1
not_told_second f e other memory (inr t) = memory (ap kind_of_error t.1 ∙ t.0)

pub first_byte_rows : FirstByteRows
unfolding has judges_vectors
first_byte_rows = record {
  vector = refl;
  judged_vector = refl;
  legacy_try = refl;
  legacy_catch = refl;
  legacy_catch_all = refl;
  allowed_try = refl;
  another = refl;
  rethrow = refl;
  delegate = refl;
  in_no_frame = refl;
  in_a_frame = refl;
  first = inl (tt, refl, refl);
  not_second = not_told_second (error (EndOfData 1) 1) (error (EndOfData 1) 1) (λ e. cc) (λ e. cc);
  memory = inr (refl, refl);
  not_for_memory = λ t. elim t [ inl x ↦ x.0 | inr x ↦ let e = ap kind_of_error x.1 in cc ];
  by_no_byte = refl;
  not_by_a_byte = λ t. let e : Other ≡ EndOfData 1 = ap kind_of_error t in cc;
}

pub visit_rows : VisitRows
unfolding default_limits unsigned opcode numeric_kinds simd_numeric_kinds operator immediate
visit_rows = record {
  visited = (nop, nop_read, (refl, refl));
  not_told = λ x. let e = x.2.1 in omega (arith, e);
  another_told = λ x. let e = x.2.0 in let c : 1 ≡ code x.0 = ap code (is_nop _ _ x.1) in omega (arith, e, c);
  not_read = λ x. let p : ◌≡◌ {A = ℕ} 1 0 = ap (λ (s : Standing). s.bytes.place) (one_step _ _ _ _ _ nop_read x.1).1 in omega (arith, p);
  visited_plain = (nop, nop_read, refl, (refl, refl));
  not_told_plain = λ x. let e = x.3.1 in omega (arith, e);
  vector = (constant, constant_read, (refl, refl));
  no_vector = λ v answer w t x. no_plain _ _ x.1 x.2;
  refused = inl (error Other 0, inl refl, refl);
  refused_vector = inr vector_refused;
  not_refused = λ r. elim r [
    | inl u ↦ refused_no_step before_nop (error Other 0) (subst (λ (f : ErrorValue). Refuses before_nop f) (sym u.2) u.1) tt nop before_end nop_read
    | inr v ↦ let e : false ≡ true = ap is_simd (is_nop _ _ v.read) ∙ v.vector in cc
  ];
  refused_unread = inl (error (EndOfData 1) 1, inl refl, inl (tt, refl, refl));
  not_refused_behind = λ r. elim r [
    | inl u ↦ not_told_second u.0 (error (EndOfData 1) 1) (λ e. cc) (λ e. cc) u.2
    | inr v ↦ let e : EndOfData 1 ≡ Other = v.kind in cc
  ];
  told = record { op = nop; canonical = refl; read = nop_read.read; role_is = refl; no_vector = refl; told = (refl, refl) };
  told_as_another = λ t.
      let same : nop ≡ t.op = coded_apart nop t.op refl t.canonical (value_is _ _ _ _ (sym nop_read.read ∙ t.read)) in
      let e : Plain ≡ End = ap role_of same ∙ t.role_is in cc;
  told_closing = record { op = end; canonical = refl; read = end_read.read; role_is = refl; no_vector = refl; told = (refl, refl) };
}

-- ---- several

walked_nop : WalksTo counts 0x01 before_nop 4 before_end 5
walked_nop = (nop ∷ [], (before_end, nop_read, refl), (refl, tt), (5, (refl, refl), refl))

beyond : (os : List op.Op) (t : Standing) → Runs behind_end os t → VisitsAll counts 0x01 4 os 5 → ⊥
beyond [] t r v = omega (arith, v)
beyond (o ∷ os) t r v = nothing_follows _ _ _ refl r.1

over_vector : (os : List op.Op) → Runs before_constant os behind_constant → HasNoVectors os → ⊥
over_vector [] r n = let p : ◌≡◌ {A = ℕ} 18 0 = ap (λ (s : Standing). s.bytes.place) r in omega (arith, p)
over_vector (o ∷ os) r n = no_plain _ _ r.1 n.0

-- nothing is walked over behind the last `end`
stays_behind : (os : List op.Op) (m : Standing) → Runs behind_end os m → m ≡ behind_end
stays_behind [] m r = r
stays_behind (o ∷ os) m r = absurd (nothing_follows _ _ _ refl r.1)

nothing_read : (os : List op.Op) (m t : Standing) (o : op.Op) → Runs behind_end os m → Reads m o t → ⊥
nothing_read os m t o r s = nothing_follows _ _ _ refl (subst (λ (u : Standing). Reads u o t) (stays_behind os m r) s)

-- `end` answers otherwise, so a walk does not pass it
stays_before : (os : List op.Op) (m : Standing) (n : ℕ) → Runs before_end os m → VisitsAll counts 0x01 4 os n → (m ≡ before_end) × (n ≡ 4)
stays_before [] m n r v = (r, v)
stays_before (o ∷ os) m n r v =
    let e : 1 ≡ code o = v.1.0 in let c : 11 ≡ code o = ap code (is_end _ _ r.1) in
    absurd (omega (arith, e, c))

place_before : (os : List op.Op) (m : Standing) (n : ℕ) → Runs before_end os m → VisitsAll counts 0x01 4 os n → m.bytes.place ≡ 1
place_before os m n r v = ap (λ (s : Standing). s.bytes.place) (stays_before os m n r v).0

pub walk_rows : WalkRows
unfolding default_limits unsigned opcode numeric_kinds simd_numeric_kinds operator immediate
walk_rows = record {
  none_on_vectors = (refl, (refl, tt));
  one_on_vectors = λ h. let e = h.1.0 in cc;
  all_told = (5, (refl, refl), (6, (refl, refl), refl));
  one_not_told = λ x. let a = x.1.1 in let b = x.2.1.1 in let c = x.2.2 in omega (arith, a, b, c);
  one_answers_otherwise = λ x. let e : ◌≡◌ {A = ℕ} 1 11 = x.2.1.0 in omega (arith, e);
  walked = walked_nop;
  not_walked = ([], refl, tt, refl);
  walked_beyond_the_end = λ t x. beyond x.0 t x.1 x.3;
  walked_over_a_vector = λ x. over_vector x.0 x.1 x.2;
  until_the_end = (before_end, 5, walked_nop, end, behind_end, end_read, refl, (refl, refl));
  until_nothing = λ last w x. nothing_read _ _ _ _ x.2.1 x.5;
  until_it_is_told = λ x. let n = (stays_before _ _ _ x.2.1 x.2.3).1 in let e = x.7.1 in omega (arith, n, e);
  until_there = (before_end, 5, walked_nop, end, behind_end, end_read, refl, (refl, refl), refl);
  until_elsewhere = λ x. let p = place_before _ _ _ x.2.1 x.2.3 in let e = x.8 in omega (arith, p, e);
  until_behind = (before_end, 5, walked_nop, (end, end_read, refl, (refl, refl)), refl);
  until_behind_elsewhere = λ t x. let p = place_before _ _ _ x.2.1 x.2.3 in let e = x.4 in omega (arith, p, e);
  stopped = inl (λ e. cc, inl (error Other 0, inl refl, refl), λ w. tt);
  stopped_at_a_vector = inl (λ e. cc, inr vector_refused, λ w. tt);
  stopped_in_a_frame = inr (refl, λ e. cc, refl, refl);
  stopped_in_a_frame_elsewhere = λ s. elim s [ inl h ↦ h.0 refl | inr h ↦ let e = h.3 in omega (arith, e) ];
  not_stopped_behind_all = λ e s. elim s [ inl h ↦ h.0 refl | inr h ↦ h.1 refl ];
  not_stopped_for_memory = λ s. elim s [ inl h ↦ h.2 none_wanted | inr h ↦ let e = h.0 in cc ];
}

-- ---- in a frame that is known

-- what is read there has the code of `nop`
is_coded_nop : (o : op.Op) (u : State) → operator before_nop.bytes.settings before_nop.bytes ≡ Done (coded_of o) u → coded_of nop ≡ coded_of o
is_coded_nop o u e = value_is _ _ _ _ (sym nop_read.read ∙ e)

no_unreachable : (u : State) → ReadsIn (Some Block) before_nop.bytes (op.Control control.Unreachable) u → ⊥
no_unreachable u r = let c : ◌≡◌ {A = ℕ} 1 0 = ap (λ (x : Coded). x.opcode.code) (is_coded_nop (op.Control control.Unreachable) u r.read) in omega (arith, c)

-- it is not refused
nop_is_read : Fails (error Other 1) (operator before_nop.bytes.settings before_nop.bytes) → ⊥
nop_is_read f = unread (error Other 1) before_nop.bytes.settings before_nop.bytes f tt (coded_of nop) before_end.bytes nop_read.read

-- and it is in its place
nop_is_placed : IsMisplaced (Some Block) before_nop.bytes → ⊥
nop_is_placed m =
    let same : nop ≡ m.op = coded_apart nop m.op refl m.canonical (is_coded_nop m.op m.behind m.read) in
    let e : true ≡ false = ap (λ (o : op.Op). fits o (Some Block)) same ∙ m.misfit in cc

-- what the first byte tells is told where it is
not_told_elsewhere : (f : ErrorValue) → ToldFirst (Some Other) 0 f (error Other 1) → ⊥
not_told_elsewhere f (inl t) = let e = t.2 in omega (arith, e)
not_told_elsewhere f (inr t) = let e : Other ≡ OutOfMemory = ap kind_of_error t.1 ∙ t.0 in cc

pub frame_rows : FrameRows
unfolding default_limits unsigned opcode numeric_kinds simd_numeric_kinds operator immediate
frame_rows = record {
  fit = record { canonical = refl; read = nop_read.read; fits = refl };
  turning = record { canonical = refl; read = else_read; fits = refl };
  not_turning = λ t r. let e = r.fits in cc;
  in_no_frame = λ t r. let e = r.fits in cc;
  another = no_unreachable before_end.bytes;
  no_frame = (refl, refl);
  no_frame_elsewhere = λ h. let e = h.1 in omega (arith, e);
  no_operator = inl refl;
  unfit = inr (record { op = op.Control control.Else; behind = (at 1 [] []).bytes; canonical = refl; read = else_read; misfit = refl }, refl, refl);
  unfit_elsewhere = λ h. elim h [ inl f ↦ else_is_read f | inr u ↦ let e = u.2 in omega (arith, e) ];
  not_refused = λ h. elim h [ inl f ↦ nop_is_read f | inr u ↦ nop_is_placed u.0 ];
  vector = inr (record { op = constant; behind = behind_constant.bytes; read = record { canonical = refl; read = constant_read.read; fits = refl }; vector = refl; kind = refl; offset = refl });
  vector_elsewhere = λ h. elim h [ inl u ↦ not_told_elsewhere u.0 u.2 | inr v ↦ let e = v.offset in omega (arith, e) ];
}
