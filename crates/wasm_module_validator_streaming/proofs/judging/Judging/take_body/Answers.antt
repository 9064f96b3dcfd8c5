-- By what the validator hands out for the body, and what judges it tells.
use Rattle.std.proofs.Common.{rules, ◌≡◌, Ok, Err, refl, inl, inr}
use Rattle.wasm_types.specs.decoding.Decoder.{State}
use Rattle.wasm_sections.specs.Payloads.{set}
use Rattle.wasm_sections.specs.declared.payload.Payload.TheVariants.{CodeSectionEntry}
use Rattle.wasm_module_validator_streaming.proofs.KeptJudge.{judge_of_handed, judge_behind, body_takes, body_judges}
use Rattle.wasm_module_validator_streaming.proofs.Stepping.{handed_within}
use Rattle.wasm_module_validator_streaming.proofs.judging.Judging.take_body.Goals as goal

pub set_limits-requires : goal.set_limits-requires
set_limits-requires c =
    let v = c.args.self.now.validator in
    let t = body_takes c.args.body v c.code_section_entry.new.self c.in-Ok.function c.in-Ok.ensures in
    record { within = handed_within (CodeSectionEntry c.args.body) v c.code_section_entry.new.self c.in-Ok.function (set v.settings c.args.body) t }

pub judge_next-requires : goal.judge_next-requires
judge_next-requires c =
    let v = c.args.self.now.validator in
    let t = body_takes c.args.body v c.code_section_entry.new.self c.in-Ok.function c.in-Ok.ensures in
    record {
      within = handed_within (CodeSectionEntry c.args.body) v c.code_section_entry.new.self c.in-Ok.function (set v.settings c.args.body) t;
      tables = judge_of_handed (CodeSectionEntry c.args.body) v c.code_section_entry.new.self c.in-Ok.function (set v.settings c.args.body) t c.args.self.now.in_loop c.requires;
    }

pub returns-in-Err-clause-steps : goal.returns-in-Err-clause-steps
returns-in-Err-clause-steps c = inl (Err c.in-Err.error, refl, c.in-Err.ensures)

pub returns-in-Ok-judge_next-clause-steps : goal.returns-in-Ok-judge_next-clause-steps
returns-in-Ok-judge_next-clause-steps c =
    let anew : c.new-anew.result ≡ set (record { features = c.in-Ok.function.features.0; limits = c.in-Ok.function.limits }) c.args.body = search rules in
    (refl, inr (body_judges c.args.body c.args.self.now.validator c.code_section_entry.new.self c.in-Ok.function c.in-Ok.ensures c.new-anew.result anew (Ok tt) c.in-Ok-judge_next.ensures.told))

pub returns-in-Ok-judge_next-clause-judge : goal.returns-in-Ok-judge_next-clause-judge
returns-in-Ok-judge_next-clause-judge c =
    let v = c.args.self.now.validator in
    let t = body_takes c.args.body v c.code_section_entry.new.self c.in-Ok.function c.in-Ok.ensures in
    judge_behind (CodeSectionEntry c.args.body) v c.code_section_entry.new.self c.in-Ok.function (set v.settings c.args.body) t c.judge_next.new.in_loop c.in-Ok-judge_next.ensures.stays

pub returns-in-Err-judge_next-clause-steps : goal.returns-in-Err-judge_next-clause-steps
returns-in-Err-judge_next-clause-steps c =
    let anew : c.new-anew.result ≡ set (record { features = c.in-Ok.function.features.0; limits = c.in-Ok.function.limits }) c.args.body = search rules in
    inr (body_judges c.args.body c.args.self.now.validator c.code_section_entry.new.self c.in-Ok.function c.in-Ok.ensures c.new-anew.result anew (Err c.in-Err-judge_next.error) c.in-Err-judge_next.ensures.told)

pub returns-in-Err-judge_next-clause-judge : goal.returns-in-Err-judge_next-clause-judge
returns-in-Err-judge_next-clause-judge c =
    let v = c.args.self.now.validator in
    let t = body_takes c.args.body v c.code_section_entry.new.self c.in-Ok.function c.in-Ok.ensures in
    judge_behind (CodeSectionEntry c.args.body) v c.code_section_entry.new.self c.in-Ok.function (set v.settings c.args.body) t c.judge_next.new.in_loop c.in-Err-judge_next.ensures.stays
