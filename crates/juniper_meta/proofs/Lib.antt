pub mod AcceptedKinds
