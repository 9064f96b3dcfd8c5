-- The parts of a text, one after the other.
use Rattle.wasm_types_decoding.proofs.Kept.{in_2, in_3, in_4, in_5, in_7}
use Rattle.wasm_types_decoding.proofs.text.Text.write_to.Goals as goal

pub returns-in-Word : goal.returns-in-Word
returns-in-Word c text k = rw c.in-Word.is (in_2 text _ _ _ _ (c.push_words-in-Word-2.ensures _ (c.push_words-in-Word.ensures text k)))

pub returns-in-NonConstant : goal.returns-in-NonConstant
returns-in-NonConstant c text k = rw c.in-NonConstant.is (in_2 text _ _ _ _ (rw c.as_str.ensures.value at c.push-in-NonConstant.ensures _ (c.push.ensures text k)))

pub returns-in-Number : goal.returns-in-Number
returns-in-Number c text k = rw c.in-Number.is (in_3 text _ _ _ _ _ (c.push_words-in-Number-2.ensures _ (c.number.ensures _ (c.push_words-in-Number.ensures text k))))

pub returns-in-Hex : goal.returns-in-Hex
returns-in-Hex c text k = rw c.in-Hex.is (in_3 text _ _ _ _ _ (c.push_words-in-Hex-2.ensures _ (c.hex.ensures _ (c.push_words-in-Hex.ensures text k))))

pub returns-in-PastLimit : goal.returns-in-PastLimit
returns-in-PastLimit c text k = rw c.in-PastLimit.is (in_3 text _ _ _ _ _ (c.number-in-PastLimit.ensures _ (c.push-in-PastLimit.ensures _ (c.push_words-in-PastLimit.ensures text k))))

pub returns-in-SizeOf : goal.returns-in-SizeOf
returns-in-SizeOf c text k = rw c.in-SizeOf.is (in_2 text _ _ _ _ (c.push-in-SizeOf.ensures _ (c.push_words-in-SizeOf.ensures text k)))

pub returns-in-TooDeep : goal.returns-in-TooDeep
returns-in-TooDeep c text k = rw c.in-TooDeep.is (in_4 text _ _ _ _ _ _ (c.number-in-TooDeep-2.ensures _ (c.push-in-TooDeep-2.ensures _ (c.number-in-TooDeep.ensures _ (c.push-in-TooDeep.ensures text k)))))

pub returns-in-Entries : goal.returns-in-Entries
returns-in-Entries c text k = rw c.in-Entries.is (in_3 text _ _ _ _ _ (c.push-in-Entries-2.ensures _ (c.hex-in-Entries.ensures _ (c.push-in-Entries.ensures text k))))

pub returns-in-Pages : goal.returns-in-Pages
returns-in-Pages c text k = rw c.in-Pages.is (in_5 text _ _ _ _ _ _ _ (c.push-in-Pages-3.ensures _ (c.number-in-Pages.ensures _ (c.push-in-Pages-2.ensures _ (c.hex-in-Pages.ensures _ (c.push-in-Pages.ensures text k))))))

pub returns-in-Subopcode : goal.returns-in-Subopcode
returns-in-Subopcode c text k = rw c.in-Subopcode.is (in_4 text _ _ _ _ _ _ (c.hex-in-Subopcode-2.ensures _ (c.push-in-Subopcode-2.ensures _ (c.hex-in-Subopcode.ensures _ (c.push-in-Subopcode.ensures text k)))))

pub returns-in-CastFlags : goal.returns-in-CastFlags
returns-in-CastFlags c text k = rw c.in-CastFlags.is (in_2 text _ _ _ _ (c.binary.ensures _ (c.push-in-CastFlags.ensures text k)))

pub returns-in-UnknownExport : goal.returns-in-UnknownExport
returns-in-UnknownExport c text k = rw c.in-UnknownExport.is (in_7 text _ _ _ _ _ _ _ _ _ (c.push-in-UnknownExport-4.ensures _ (c.push_words-in-UnknownExport-2.ensures _ (c.push-in-UnknownExport-3.ensures _ (c.number-in-UnknownExport.ensures _ (c.push-in-UnknownExport-2.ensures _ (c.push_words-in-UnknownExport.ensures _ (c.push-in-UnknownExport.ensures text k))))))))

pub returns-in-NoVisitOfConstants : goal.returns-in-NoVisitOfConstants
returns-in-NoVisitOfConstants c text k = rw c.in-NoVisitOfConstants.is (in_2 text _ _ _ _ (rw c.as_str-in-NoVisitOfConstants.ensures.value at c.push-in-NoVisitOfConstants-2.ensures _ (c.push-in-NoVisitOfConstants.ensures text k)))

pub returns-in-Types : goal.returns-in-Types
returns-in-Types c text k = rw c.in-Types.is (in_4 text _ _ _ _ _ _ (c.write_to-in-Types.ensures _ (c.push_words-in-Types-2.ensures _ (c.write_to.ensures _ (c.push_words-in-Types.ensures text k)))))

pub returns-in-Mismatch : goal.returns-in-Mismatch
returns-in-Mismatch c text k = rw c.in-Mismatch.is (in_4 text _ _ _ _ _ _ (c.push_words-in-Mismatch-2.ensures _ (c.push-in-Mismatch-2.ensures _ (c.push_words-in-Mismatch.ensures _ (c.push-in-Mismatch.ensures text k)))))

pub returns-in-SubtypeMismatch : goal.returns-in-SubtypeMismatch
returns-in-SubtypeMismatch c text k = rw c.in-SubtypeMismatch.is (in_4 text _ _ _ _ _ _ (c.push_words-in-SubtypeMismatch-2.ensures _ (c.push-in-SubtypeMismatch-2.ensures _ (c.push_words-in-SubtypeMismatch.ensures _ (c.push-in-SubtypeMismatch.ensures text k)))))

pub returns-in-EmptyStack : goal.returns-in-EmptyStack
returns-in-EmptyStack c text k = rw c.in-EmptyStack.is (in_3 text _ _ _ _ _ (c.push-in-EmptyStack-2.ensures _ (c.push_words-in-EmptyStack.ensures _ (c.push-in-EmptyStack.ensures text k))))

pub returns-in-ElementMismatch : goal.returns-in-ElementMismatch
returns-in-ElementMismatch c text k = rw c.in-ElementMismatch.is (in_5 text _ _ _ _ _ _ _ (c.push-in-ElementMismatch-3.ensures _ (c.push_words-in-ElementMismatch-2.ensures _ (c.push-in-ElementMismatch-2.ensures _ (c.push_words-in-ElementMismatch.ensures _ (c.push-in-ElementMismatch.ensures text k))))))

pub returns-in-DuplicateExport : goal.returns-in-DuplicateExport
returns-in-DuplicateExport c text k = rw c.in-DuplicateExport.is (in_3 text _ _ _ _ _ (c.push-in-DuplicateExport-3.ensures _ (rw c.as_str-in-DuplicateExport.ensures.value at c.push-in-DuplicateExport-2.ensures _ (c.push-in-DuplicateExport.ensures text k))))
