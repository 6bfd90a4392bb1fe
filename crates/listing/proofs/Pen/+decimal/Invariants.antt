-- `Pen::decimal` meets its contract, as a function that calls itself with one digit less; the digits left are what falls. Assumes nothing.
use Rattle.listing.proofs.Pen.+decimal.Given as goal

abbrev pub decreases-decimal : goal.decreases-decimal
decreases-decimal l = l.most
