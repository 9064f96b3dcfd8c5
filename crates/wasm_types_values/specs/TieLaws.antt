-- `cmp` answers that two references are equal exactly where `==` holds of them.
use Rattle.std.proofs.Common.{◌≡◌, ◌∙◌, ℕ, refl, sym, ap, Bool, ◌&&◌}
use Rattle.std.specs.Cmp.{unsigned_ties}
use Rattle.std.specs.Ordering.{is_eq, nat_cmp, ordering_then}
use Rattle.std.specs.Prelude.{◌==◌}
use Rattle.std.specs.declared.cmp.Ordering.{Ordering}
use Rattle.std.specs.declared.cmp.Ordering.TheVariants.{Less, Equal, Greater}
use Rattle.wasm_types_values.specs.Reference.{Reference}
use Rattle.wasm_types_values.specs.Kinds.{reference_eq, reference_cmp, part_of, last_of}
use Rattle.wasm_types_values.specs.Bits.{class_of, bit}

both_equal : (o p : Ordering) → is_eq (ordering_then o p) ≡ (is_eq o && is_eq p)
both_equal Less p = refl
both_equal Equal p = refl
both_equal Greater p = refl

one_more : (x y : ℕ) (e : Bool) (o : Ordering) → e ≡ is_eq o → (x == y && e) ≡ is_eq (ordering_then (nat_cmp x y) o)
one_more x y e o h = ap (λ (t : Bool). t && e) (unsigned_ties x y) ∙ ap (λ (t : Bool). is_eq (nat_cmp x y) && t) h ∙ sym (both_equal (nat_cmp x y) o)

four : (a b c d k l m n : ℕ) → (a == k && (b == l && (c == m && d == n))) ≡ is_eq
    (ordering_then (nat_cmp a k) (ordering_then (nat_cmp b l) (ordering_then (nat_cmp c m) (nat_cmp d n))))
four a b c d k l m n =
    let e : (d == n) ≡ is_eq (nat_cmp d n) = unsigned_ties d n in
    let f : (c == m && d == n) ≡ is_eq (ordering_then (nat_cmp c m) (nat_cmp d n)) = one_more c m (d == n) (nat_cmp d n) e in
    let g : (b == l && (c == m && d == n)) ≡ is_eq (ordering_then (nat_cmp b l) (ordering_then (nat_cmp c m) (nat_cmp d n))) = one_more b l
    (c == m && d == n) (ordering_then (nat_cmp c m) (nat_cmp d n)) f in
    one_more a k (b == l && (c == m && d == n)) (ordering_then (nat_cmp b l) (ordering_then (nat_cmp c m) (nat_cmp d n))) g

pub reference_ties : (r s : Reference) → reference_eq r s ≡ is_eq (reference_cmp r s)
reference_ties r s = four (class_of r.heap) (bit r.nullable) (part_of r.heap) (last_of r.heap) (class_of s.heap) (bit s.nullable) (part_of s.heap) (last_of s.heap)
