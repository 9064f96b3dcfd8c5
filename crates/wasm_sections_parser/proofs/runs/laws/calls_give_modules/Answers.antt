-- By the laws of modules and of refusals.
use Rattle.wasm_sections_parser.specs.runs.ModuleLaws.{calls_front, end_given}
use Rattle.wasm_sections_parser.specs.runs.FrontLaws.{front_spelled}
use Rattle.wasm_sections_parser.specs.runs.calls.Calls.{shapes_of, stands}
use Rattle.wasm_sections_parser.specs.Parsing.{reads}
use Rattle.wasm_sections_parser.specs.runs.RefusalLaws.{refused_stuck, asked_stuck, front_first, not_refused}
use Rattle.wasm_sections_parser.proofs.runs.laws.calls_give_modules.Goals as goal

pub returns-clause-end : goal.returns-clause-end
returns-clause-end c = λ p q r text rest fs n place. end_given fs p q r text rest n place

pub returns-clause-accepted : goal.returns-clause-accepted
returns-clause-accepted c = λ p q r text rest fs e xs first room m calls going refused.
    not_refused fs p q r text rest e first calls going refused m.outer xs m.frames m.ordered m.counted m.counts room

pub returns-clause-before : goal.returns-clause-before
returns-clause-before c = λ p q text rest fs. calls_front fs p q text rest

pub returns-clause-spelled : goal.returns-clause-spelled
returns-clause-spelled c = λ p q text rest fs first calls going.
    let k = front_spelled p.settings (reads p text) (stands q rest p.offset) (shapes_of fs) q.progress (calls_front fs p q text rest first calls going) in
    (k.0, k.1, k.2.parts, k.3)

pub returns-clause-refused : goal.returns-clause-refused
returns-clause-refused c = λ p q r text rest front back fs e xs long first whole start room calls going refused.
    front_first fs p q text rest first calls going (refused_stuck q r rest e refused going) front back xs long whole start room

pub returns-clause-asked : goal.returns-clause-asked
returns-clause-asked c = λ p q r text rest front back fs n xs long first whole start room calls going asked.
    front_first fs p q text rest first calls going (asked_stuck q r rest n going asked) front back xs long whole start room
