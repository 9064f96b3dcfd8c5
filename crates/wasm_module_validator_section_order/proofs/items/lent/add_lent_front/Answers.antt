use Rattle.std.proofs.Common.{◌≡◌, ◌+◌, ◌-◌, ℕ, suc, arith, refl, sym, subst}
use Rattle.wasm_module_validator_section_order.specs.items.AddingLaws.{Stands, behind, stands_at_once, stands_behind_short}
use Rattle.wasm_module_validator_section_order.proofs.items.lent.add_lent_front.Goals as goal

pub loop-passed-init : goal.loop-passed-init
loop-passed-init g c =
    let i = g.T.FromReader in
    let a = g.S.AddLent in
    let law = g.met.S.AddLent c.lifetimes (assumption c) in (
      omega arith,
      (λ z n b s w same rest left here. stands_at_once i.view a.of law.alike i.decoder i.grammar (g.met.T.FromReader c.lifetimes (assumption c)).exact a.adds z a.reads n b s
          (c.args.most - 0) w c.args.state.now (omega (arith, left)) here),
      law.grows_by_nothing c.args.state.now,
    )

pub add_lent_short-requires : goal.add_lent_short-requires
add_lent_short-requires g c κs = ((refl, tt), c.loop-passed.invariant.0)

pub returns-in_default-clause-inside : goal.returns-in_default-clause-inside
returns-in_default-clause-inside g c = c.loop-passed.invariant.0

pub returns-in_default-clause-stands : goal.returns-in_default-clause-stands
returns-in_default-clause-stands g c =
    let i = g.T.FromReader in
    let a = g.S.AddLent in
    λ w rest left z n b s same here. subst (λ (u : g.row.S.Denot). Stands i.view a.of i.decoder i.grammar a.adds z a.reads n b s (behind w c.loop-passed.at (c.args.most - c.loop-passed.passed)) u)
    (sym c.in_default.ensures.stays) (c.loop-passed.invariant.1 z n b s w same rest left here)

pub returns-in_default-clause-grown : goal.returns-in_default-clause-grown
returns-in_default-clause-grown g c =
    subst (λ (u : g.row.S.Denot). g.S.AddLent.grows c.args.state.now u) (sym c.in_default.ensures.stays) c.loop-passed.invariant.2

pub loop-passed-preserved : goal.loop-passed-preserved
loop-passed-preserved g c =
    let i = g.T.FromReader in
    let a = g.S.AddLent in
    let law = g.met.S.AddLent c.lifetimes (assumption c) in
    let k = c.args.most - (c.loop-passed.passed + 1) in
    let one_more : c.args.most - c.loop-passed.passed ≡ suc k = omega (arith, c.loop-passed-test.true) in (
      c.in-Some.ensures.added.inside,
      (λ z n b s w same rest left here. stands_behind_short i.view a.of law.alike i.decoder i.grammar (g.met.T.FromReader c.lifetimes (assumption c)).exact a.adds z a.reads n b s
          c.args.limits.now c.args.bytes.now c.loop-passed.at c.in-Some.end k w c.loop-passed.state c.add_lent_short.new.self same rest c.in-Some.ensures.added
          (subst (λ (j : ℕ). Stands i.view a.of i.decoder i.grammar a.adds z a.reads n b s (behind w c.loop-passed.at j) c.loop-passed.state) one_more
          (c.loop-passed.invariant.1 z n b s w same rest left here))),
      law.grows_further c.args.state.now c.loop-passed.state c.add_lent_short.new.self c.loop-passed.invariant.2 c.in-Some.ensures.grown,
    )

pub returns-clause-inside : goal.returns-clause-inside
returns-clause-inside g c = c.loop-passed.invariant.0

pub returns-clause-stands : goal.returns-clause-stands
returns-clause-stands g c =
    let i = g.T.FromReader in
    let a = g.S.AddLent in
    let all : c.args.most - c.loop-passed.passed ≡ 0 = omega (arith, c.loop-passed-test.false) in
    λ w rest left z n b s same here. subst (λ (j : ℕ). Stands i.view a.of i.decoder i.grammar a.adds z a.reads n b s (behind w c.loop-passed.at j) c.loop-passed.state) all
    (c.loop-passed.invariant.1 z n b s w same rest left here)

pub returns-clause-grown : goal.returns-clause-grown
returns-clause-grown g c = c.loop-passed.invariant.2
