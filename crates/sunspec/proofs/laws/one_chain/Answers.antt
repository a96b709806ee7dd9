use Rattle.std.proofs.Common.{◌≡◌, refl}
use Rattle.sunspec.specs.Sources.{Image}
use Rattle.sunspec.specs.Chains.{IsChain, IsChainless}
use Rattle.sunspec.specs.declared.chain.Chain.{Chain}
use Rattle.sunspec.specs.declared.error.SunError.{SunError}
use Rattle.sunspec.specs.declared.error.SunError.TheVariants.{BadScale, Memory, NoMarker, OutOfRange, PastEnd, SourceFault, TooManyModels}
use Rattle.sunspec.proofs.OneWalk.{chain_or_cut, chain_or_many, cut_or_many, marked_chain, one_chain}
use Rattle.sunspec.proofs.laws.one_chain.Goals as goal

pub returns-clause-chain : goal.returns-clause-chain
returns-clause-chain c = one_chain

pub returns-clause-either : goal.returns-clause-either
returns-clause-either c = by
  where
    by : (image : Image) (x : Chain) (e : SunError) → IsChain image x → IsChainless image e → ⊥
    by image x NoMarker p q = marked_chain image x.base q p.base
    by image x PastEnd p q = chain_or_cut image x p q
    by image x TooManyModels p q = chain_or_many image x p q
    by image x OutOfRange p q = q
    by image x BadScale p q = q
    by image x Memory p q = q
    by image x SourceFault p q = q

pub returns-clause-reason : goal.returns-clause-reason
returns-clause-reason c = by
  where
    by : (image : Image) (e f : SunError) → IsChainless image e → IsChainless image f → e ≡ f
    by image NoMarker NoMarker p q = refl
    by image NoMarker PastEnd p q = absurd (marked_chain image q.begins.base p q.begins.is_base)
    by image NoMarker TooManyModels p q = absurd (marked_chain image q.begins.base p q.begins.is_base)
    by image PastEnd NoMarker p q = absurd (marked_chain image p.begins.base q p.begins.is_base)
    by image PastEnd PastEnd p q = refl
    by image PastEnd TooManyModels p q = absurd (cut_or_many image p q)
    by image TooManyModels NoMarker p q = absurd (marked_chain image p.begins.base q p.begins.is_base)
    by image TooManyModels PastEnd p q = absurd (cut_or_many image q p)
    by image TooManyModels TooManyModels p q = refl
    by image NoMarker _ p q = absurd q
    by image PastEnd _ p q = absurd q
    by image TooManyModels _ p q = absurd q
    by image _ f p q = absurd p
