mod EditedViews
