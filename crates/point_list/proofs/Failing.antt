-- What fails in an entry fails in the whole list.
use Rattle.std.proofs.Common.{◌≡◌, Option, None}
use Rattle.std.specs.Prelude.{Err, Ok, Result}
use Rattle.point_list.specs.SiteFile.{Fails, Gives, GivesAt, placed}
use Rattle.point_list.specs.declared.site_error.SiteError.{SiteError}
use Rattle.point_list.specs.declared.site_error.SitePlace.{SitePlace}
use Rattle.point_list.specs.declared.site_error.SiteFault.{SiteFault}
use Rattle.point_list.specs.declared.site_error.SiteFault.TheVariants.{Memory}

-- what fails in a part fails in the whole
pub fails_more : {A B : Type 0} (fault : SiteFault) (o : Option A) (w : Option B) → Fails fault o → (o ≡ None → w ≡ None) → Fails fault w
fails_more Memory o w h more = tt
fails_more fault o w h more = more h

-- what is given is given with a place, too
pub given_at : {X Y : Type 0} (view : X → Y) (place : SitePlace) (r : Result X SiteFault) (o : Option Y) (told : Result X SiteError) → told ≡ placed place r → Gives view r o → GivesAt view told o
given_at view place (Ok x) o told e given = rw e given
given_at view place (Err fault) o told e given = rw e given
