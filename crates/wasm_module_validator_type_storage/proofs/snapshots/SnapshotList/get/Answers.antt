use Rattle.std.proofs.Common.{◌∙◌, ◌-◌, ap, sym, map, get_or, List, arith, ℕ}
use Rattle.std.specs.Prelude.{slice_get}
use Rattle.wasm_module_validator_type_storage.proofs.Places.{first_start, found}
use Rattle.wasm_module_validator_type_storage.proofs.snapshots.SnapshotList.get.Goals as goal

pub snapshot_of-at-requires-clause-first : goal.snapshot_of-at-requires-clause-first
snapshot_of-at-requires-clause-first g c =
    let e = ap (λ l. get_or (map (λ s. s.value.prior) l) 0 0) c.as_slice-2.ensures.value in
    let f = ap (λ (l : List ℕ). get_or l 0 0) c.self.invariant.starts in
    let h = first_start (map (λ s. s.value.items.items) c.self.inside.snapshots.items) in
    omega (arith, e, f, h)

pub returns : goal.returns
returns g c =
    let e = c.as_slice-2.ensures.value in
    let within = rw e at c.snapshot_of-at.ensures.within in
    let from = rw e at c.snapshot_of-at.ensures.starts in
    let to = rw e at c.snapshot_of-at.ensures.ends in
    c.item_at-2.ensures
    ∙ ap (λ l. slice_get l (c.args.index - c.deref-snapshot.result.now.prior)) c.as_slice-3.ensures.value
    ∙ ap (λ s. slice_get s.items.items (c.args.index - s.prior)) c.deref-snapshot.ensures
    ∙ sym (found (λ s. s.value.items.items) (λ s. s.value.prior) c.self.inside.snapshots.items c.self.inside.total c.self.inside.current.items c.snapshot_of-at.result c.args.index
    c.index.result.now c.self.invariant within c.index.ensures from to c.if-index-self.false)
    ∙ ap (λ l. slice_get l.items c.args.index) c.self.view_is
