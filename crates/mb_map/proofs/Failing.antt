-- What fails in an entry fails in the whole list.
use Rattle.std.proofs.Common.{◌≡◌, Option, None}
use Rattle.std.specs.Prelude.{Err, Ok, Result}
use Rattle.mb_map.specs.Image.{Fails, Gives, GivesAt, placed}
use Rattle.mb_map.specs.declared.image_error.ImageError.{ImageError}
use Rattle.mb_map.specs.declared.image_error.ImageFault.{ImageFault}
use Rattle.mb_map.specs.declared.image_error.ImageFault.TheVariants.{Memory}
use Rattle.mb_map.specs.declared.image_error.ImagePlace.{ImagePlace}

-- what fails in a part fails in the whole
pub fails_more : {A B : Type 0} (fault : ImageFault) (o : Option A) (w : Option B) → Fails fault o → (o ≡ None → w ≡ None) → Fails fault w
fails_more Memory o w h more = tt
fails_more fault o w h more = more h

-- what is given is given with a place, too
pub given_at : {X Y : Type 0} (view : X → Y) (place : ImagePlace) (r : Result X ImageFault) (o : Option Y) (told : Result X ImageError) → told ≡ placed place r → Gives view r o → GivesAt view told o
given_at view place (Ok x) o told e given = rw e given
given_at view place (Err fault) o told e given = rw e given
