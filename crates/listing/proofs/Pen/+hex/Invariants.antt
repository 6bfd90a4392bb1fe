-- `Pen::hex` meets its contract, as a function that calls itself with one digit less; the digits left are what falls. Assumes nothing.
use Rattle.listing.proofs.Pen.+hex.Given as goal

abbrev pub decreases-hex : goal.decreases-hex
decreases-hex l = l.digits
