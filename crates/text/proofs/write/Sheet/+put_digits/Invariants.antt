-- The measure is k: the function calls itself with k - 1.
use Rattle.text.proofs.write.Sheet.+put_digits.Given as goal

abbrev pub decreases-put_digits : goal.decreases-put_digits
decreases-put_digits l = l.k
