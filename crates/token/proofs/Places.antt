-- How many places the list has.
use mathlib.Core.Path.{◌≡◌, refl}
use lib.ListN.{length}
use Rattle.token.specs.Keywords.{keywords}

pub many : length keywords ≡ 153
unfolding keywords
many = refl
