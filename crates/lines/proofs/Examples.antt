-- Lines of answers, computed from the definitions.
-- Assumes nothing.
use mathlib.Core.Path.{◌≡◌, refl}
use mathlib.Core.List.{[], ◌∷◌}
use Rattle.judgement.specs.Meaning.{none}
use Rattle.judgement.specs.Judgement.{refused}
use Rattle.judgement.specs.Computed.{accepted, within}
use Rattle.lines.specs.Text.{codes}
use Rattle.lines.specs.Lines.{decimal_within, decimal_of, least_line, none_line, within_line, refused_line, line_of}

-- least 3 open 1 steps 5
least_line_lem : line_of (accepted 3 1 5) ≡ 0x6C ∷ 0x65 ∷ 0x61 ∷ 0x73 ∷ 0x74 ∷ 0x20 ∷ 0x33 ∷ 0x20 ∷ 0x6F ∷ 0x70 ∷ 0x65 ∷ 0x6E ∷ 0x20 ∷ 0x31 ∷ 0x20 ∷ 0x73 ∷ 0x74 ∷ 0x65 ∷ 0x70 ∷ 0x73 ∷ 0x20 ∷ 0x35 ∷ 0x0A ∷ []
unfolding none decimal_within decimal_of least_line none_line within_line refused_line line_of
least_line_lem = refl

-- none open 0 steps 1
none_line_lem : line_of (accepted none 0 1) ≡ 0x6E ∷ 0x6F ∷ 0x6E ∷ 0x65 ∷ 0x20 ∷ 0x6F ∷ 0x70 ∷ 0x65 ∷ 0x6E ∷ 0x20 ∷ 0x30 ∷ 0x20 ∷ 0x73 ∷ 0x74 ∷ 0x65 ∷ 0x70 ∷ 0x73 ∷ 0x20 ∷ 0x31 ∷ 0x0A ∷ []
unfolding none decimal_within decimal_of least_line none_line within_line refused_line line_of
none_line_lem = refl

-- within 5 cost 8 open 2 steps 5
within_line_lem : line_of (within 5 8 2 5) ≡ 0x77 ∷ 0x69 ∷ 0x74 ∷ 0x68 ∷ 0x69 ∷ 0x6E ∷ 0x20 ∷ 0x35 ∷ 0x20 ∷ 0x63 ∷ 0x6F ∷ 0x73 ∷ 0x74 ∷ 0x20 ∷ 0x38 ∷ 0x20 ∷ 0x6F ∷ 0x70 ∷ 0x65 ∷ 0x6E ∷ 0x20 ∷ 0x32 ∷ 0x20 ∷ 0x73 ∷ 0x74 ∷ 0x65 ∷ 0x70 ∷ 0x73 ∷ 0x20 ∷ 0x35 ∷ 0x0A ∷ []
unfolding none decimal_within decimal_of least_line none_line within_line refused_line line_of
within_line_lem = refl

-- within 4 cost 7 open 2 steps 1, four numbers that differ
within_line_2 : line_of (within 4 7 2 1) ≡ 0x77 ∷ 0x69 ∷ 0x74 ∷ 0x68 ∷ 0x69 ∷ 0x6E ∷ 0x20 ∷ 0x34 ∷ 0x20 ∷ 0x63 ∷ 0x6F ∷ 0x73 ∷ 0x74 ∷ 0x20 ∷ 0x37 ∷ 0x20 ∷ 0x6F ∷ 0x70 ∷ 0x65 ∷ 0x6E ∷ 0x20 ∷ 0x32 ∷ 0x20 ∷ 0x73 ∷ 0x74 ∷ 0x65 ∷ 0x70 ∷ 0x73 ∷ 0x20 ∷ 0x31 ∷ 0x0A ∷ []
unfolding none decimal_within decimal_of least_line none_line within_line refused_line line_of
within_line_2 = refl

-- refused 19 at 5
refused_line_lem : line_of (refused 19 5) ≡ 0x72 ∷ 0x65 ∷ 0x66 ∷ 0x75 ∷ 0x73 ∷ 0x65 ∷ 0x64 ∷ 0x20 ∷ 0x31 ∷ 0x39 ∷ 0x20 ∷ 0x61 ∷ 0x74 ∷ 0x20 ∷ 0x35 ∷ 0x0A ∷ []
unfolding none decimal_within decimal_of least_line none_line within_line refused_line line_of
refused_line_lem = refl

zero_decimal : decimal_of 0 ≡ codes "0"
unfolding decimal_within decimal_of
zero_decimal = refl

ten_decimal : decimal_of 10 ≡ codes "10"
unfolding decimal_within decimal_of
ten_decimal = refl

-- the longest number
none_decimal : decimal_of none ≡ codes "18446744073709551615"
unfolding none decimal_within decimal_of
none_decimal = refl
