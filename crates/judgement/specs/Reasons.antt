-- The numbers of the refusals: document 01's table, which document 02 goes on with, and after 24 those of the writer, of the
-- search, of the trimmer and of the turns.
-- Assumes nothing.
use Rattle.std.specs.Prelude.{ℕ}
use Rattle.judgement.specs.declared.Reason.{Reason}
use Rattle.judgement.specs.declared.Reason.TheVariants.{Oversize, SheetHead, SheetPairs, RuleForm, RecordHead, StrayBit, RecordPairs, StepForm}
use Rattle.judgement.specs.declared.Reason.TheVariants.{Citation, BrokenRule, ClaimedCost, Copy, CostBound, Dependence, IndependentBound}
use Rattle.judgement.specs.declared.Reason.TheVariants.{Pivot, Resolvent, LesserBound, Close, UnsettledShut, AllSettled, SharedPaddle, Weights}
use Rattle.judgement.specs.declared.Reason.TheVariants.{LinearBound, ShortBuffer, ManyPaddles, FewMarks, ShortOutput, NoRoom, WrongTurn}

abbrev pub number_of : Reason → ℕ
number_of Oversize = 1
number_of SheetHead = 2
number_of SheetPairs = 3
number_of RuleForm = 4
number_of RecordHead = 5
number_of StrayBit = 6
number_of RecordPairs = 7
number_of StepForm = 8
number_of Citation = 9
number_of BrokenRule = 10
number_of ClaimedCost = 11
number_of Copy = 12
number_of CostBound = 13
number_of Dependence = 14
number_of IndependentBound = 15
number_of Pivot = 16
number_of Resolvent = 17
number_of LesserBound = 18
number_of Close = 19
number_of UnsettledShut = 20
number_of AllSettled = 21
number_of SharedPaddle = 22
number_of Weights = 23
number_of LinearBound = 24
number_of ShortBuffer = 25
number_of ManyPaddles = 26
number_of FewMarks = 27
number_of ShortOutput = 28
number_of NoRoom = 29
number_of WrongTurn = 30
