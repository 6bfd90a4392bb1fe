-- `constants::store_text` meets its contract: what `fits` tells is the definition's test, and `copy`, `place` and `store` make its parts.
use Rattle.constants.proofs.Steps.{text_fits}
use Rattle.constants.proofs.store_text.Goals as goal

pub returns-then-fits : goal.returns-then-fits
returns-then-fits c =
    let a = c.args in
    text_fits a.table a.text.now a.kinds.now a.values.now a.pool.now c.fits.ensures c.if-fits.true c.copy.ensures c.place.ensures c.store.ensures
