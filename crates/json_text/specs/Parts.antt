-- For private clauses alone: the code's parts of a number as those of `Reading`.
use Rattle.json_text.specs.Reading.{NumberPart, minus, zero_int, int, point, fraction, exponent, exponent_sign, exponent_digits}
use Rattle.json_text.specs.declared.number.Part.{Part}
use Rattle.json_text.specs.declared.number.Part.TheVariants.{Minus, Zero, Int, Point, Fraction, Exponent, ExponentSign, ExponentDigits}

abbrev pub part_of : Part → NumberPart
part_of Minus = minus
part_of Zero = zero_int
part_of Int = int
part_of Point = point
part_of Fraction = fraction
part_of Exponent = exponent
part_of ExponentSign = exponent_sign
part_of ExponentDigits = exponent_digits
